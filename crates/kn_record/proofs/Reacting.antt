-- The expiries, the losses with a pod, the act's own row and the assignments are proper.
use Rattle.std.proofs.Common.{◌≡◌, ℕ, ◌+◌, ◌≤◌, ◌<◌, ◌%◌, Bool, true, false, not, cond, ◌⊎◌, inl, inr, List, [], ◌∷◌, ◌++◌, length, refl, sym, ap, subst, ◌∙◌, arith, nat_le, map, zero, suc, append-nil, append_assoc, ◌||◌, ◌&&◌}
use Rattle.std.specs.Prelude.{Option, None, Some, ◌==◌, slice_index, slice_index_or}
use Rattle.std.specs.List.{filter_map, cons_option}
use Rattle.std.proofs.lemmas.Bool.{eqb-true, eq-eqb, or_parts, not-true, true_from_ne_false, or_right}
use Rattle.std.proofs.lemmas.Bool.Decides.{nat_tests}
use Rattle.kn_event.specs.declared.entry.Entry.{Entry}
use Rattle.kn_event.specs.declared.entry.Row.TheVariants as row
use Rattle.kn_event.specs.declared.entry.Mode.{Mode}
use Rattle.kn_event.specs.declared.entry.Mode.TheVariants as mode
use Rattle.kn_event.specs.declared.event.Act.{Act}
use Rattle.kn_event.specs.declared.event.Act.TheVariants as act
use Rattle.kn_event.specs.declared.event.Event.{Event}
use Rattle.kn_event.specs.declared.revision.Spec.{Spec}
use Rattle.kn_event.specs.Lists.{contains}
use Rattle.kn_trace.specs.Rows.{admitted_by, brought_to, created_by, taken_by, ended_by}
use Rattle.kn_trace.specs.Trace.{Trace, entry, arrivals, at_pod, direct_turn, each_row, ended, has_not_begun, held, is_held, is_running, is_starting, live, live_pods, queued_at, ready_pods, starting_pods, waiting}
use Rattle.kn_trace.specs.Capacity.{breaker_full, pod_full}
use Rattle.kn_trace.specs.Scale.{mode_of}
use Rattle.kn_trace.specs.Settling.{assignments_of, next_choice, while_chosen}
use Rattle.kn_trace.specs.Events.{act_row, admission_row, arrival_row, departures, direct_row, due, due_by, entries_of, expiries, live_most, losses, losses_at, lost_with}
use Rattle.kn_record.specs.Rows.{moved_by}
use Rattle.kn_record.specs.Made.{AreDistinct, Holds, IsNumbered, IsProper}
use Rattle.kn_record.specs.Views.{others}
use Rattle.kn_record.specs.Kept.{Kept, IsCleared}
use Rattle.kn_record.proofs.Members.{contains-filter, distinct-filter, filter-first}
use Rattle.kn_record.proofs.Numbers.{admitted_taken, at_pod_member, brought_moved, filter_member, in_filter, moved_taken, within-from}
use Rattle.kn_record.proofs.PodNumbers.{live_pod_created}
use Rattle.kn_record.proofs.Steps.{at_pod-end, waiting-end, held-assign, view-less}
use Rattle.kn_record.proofs.Kept.{Holds-append, Holds-kept}
use Rattle.kn_record.proofs.Choosing.{next_choice-good}
use Rattle.kn_record.proofs.Flags.{ended-push}

-- ---- lists that leave some out

-- what f gives, g gives too
pub contains-fewer : {X : Type 0} (f g : X → Option ℕ) → ((x : X) → (f x ≡ None) ⊎ (f x ≡ g x)) → (r : ℕ) (xs : List X) → contains r (filter_map g xs) ≡ false → contains r (filter_map f xs) ≡ false
contains-fewer f g part r [] n = refl
contains-fewer f g part r (x ∷ xs) n = by (f x) (g x) (part x) n (contains-fewer f g part r xs)
  where
    by : (a b : Option ℕ) → (a ≡ None) ⊎ (a ≡ b) → contains r (cons_option b (filter_map g xs)) ≡ false → (contains r (filter_map g xs) ≡ false → contains r (filter_map f xs) ≡ false)
        → contains r (cons_option a (filter_map f xs)) ≡ false
    by a None (inl e) n rest = rw e (rest n)
    by a None (inr e) n rest = rw e (rest n)
    by a (Some q) (inl e) n rest = rw e (rest (or_parts (q == r) _ n).1)
    by a (Some q) (inr e) n rest = let both = or_parts (q == r) _ n in rw (e, both.0) (rest both.1)

-- what leaves some out of distinct numbers is distinct
pub distinct-fewer : {X : Type 0} (f g : X → Option ℕ) → ((x : X) → (f x ≡ None) ⊎ (f x ≡ g x)) → (xs : List X) → AreDistinct (filter_map g xs) → AreDistinct (filter_map f xs)
distinct-fewer f g part [] d = tt
distinct-fewer f g part (x ∷ xs) d = by (f x) (g x) (part x) d (distinct-fewer f g part xs)
  where
    by : (a b : Option ℕ) → (a ≡ None) ⊎ (a ≡ b) → AreDistinct (cons_option b (filter_map g xs)) → (AreDistinct (filter_map g xs) → AreDistinct (filter_map f xs)) → AreDistinct (cons_option a (filter_map f xs))
    by a None (inl e) d rest = rw e (rest d)
    by a None (inr e) d rest = rw e (rest d)
    by a (Some q) (inl e) d rest = rw e (rest d.1)
    by a (Some q) (inr e) d rest = rw e (contains-fewer f g part q xs d.0, rest d.1)

-- each is held once
pub held_distinct : (c : Trace) → IsNumbered c → AreDistinct (held c)
unfolding held
held_distinct c num = distinct-filter (is_held c) (each_row admitted_by c) (distinct-fewer (λ (e : Entry). admitted_by e.row) (λ (e : Entry). taken_by e.row) (λ e. admitted_taken e.row) c num.once)

pub brought_distinct : (c : Trace) (p : ℕ) → IsNumbered c → AreDistinct (each_row (brought_to p) c)
brought_distinct c p num = distinct-fewer (λ (e : Entry). brought_to p e.row) (λ (e : Entry). moved_by e.row) (λ e. brought_moved p e.row) c num.moved

-- each is queued once
pub queued_distinct : (c : Trace) (p : ℕ) → IsNumbered c → AreDistinct (queued_at c p)
unfolding queued_at
queued_distinct c p num = distinct-filter (has_not_begun c) (each_row (brought_to p) c) (brought_distinct c p num)

-- r isn't in the rest of a list that it begins
pub apart_from : (r q : ℕ) (rs : List ℕ) → contains r rs ≡ false → contains q rs ≡ true → not (r == q) ≡ true
apart_from r q rs d h = by (r == q) refl
  where
    by : (b : Bool) → (r == q) ≡ b → not b ≡ true
    by true e = absurd (let same : r ≡ q = eqb-true r q e in let absent : contains q rs ≡ false = rw (← same) d in cc)
    by false e = refl

-- ---- first, who waited too long

pub due_taken : (timeout t : ℕ) (e : Entry) → (due_by timeout t e ≡ None) ⊎ (due_by timeout t e ≡ taken_by e.row)
due_taken timeout t e = by (nat_le (e.time + timeout) t)
  where
    by : (b : Bool) → (cond b (taken_by e.row) None ≡ None) ⊎ (cond b (taken_by e.row) None ≡ taken_by e.row)
    by true = inr refl
    by false = inl refl

-- who is due waits
pub due_waits : (s : Spec) (t : ℕ) (c : Trace) (r : ℕ) → contains r (due s t c) ≡ true → contains r (waiting c) ≡ true
unfolding due waiting
due_waits s t c r h =
    let both = filter_member (has_not_begun c) r (filter_map (due_by s.timeout_ms t) c) h in
    in_filter (has_not_begun c) r (each_row taken_by c)
    (true_from_ne_false (contains r (each_row taken_by c)) (λ n. let no = contains-fewer (due_by s.timeout_ms t) (λ (e : Entry). taken_by e.row) (due_taken s.timeout_ms t) r c n in let yes_it_is = both.0 in absurd (cc))) both.1

-- each is due once
pub due_distinct : (s : Spec) (t : ℕ) (c : Trace) → IsNumbered c → AreDistinct (due s t c)
unfolding due
due_distinct s t c num =
    distinct-filter (has_not_begun c) (filter_map (due_by s.timeout_ms t) c) (distinct-fewer (due_by s.timeout_ms t) (λ (e : Entry). taken_by e.row) (due_taken s.timeout_ms t) c num.once)

expire-hold : (s : Spec) (t : ℕ) (c : Trace) (rs : List ℕ) → AreDistinct rs → ((r : ℕ) → contains r rs ≡ true → contains r (waiting c) ≡ true) → Holds (IsProper s) c (map (λ r. entry t (row.Expire r)) rs)
expire-hold s t c [] d all = tt
expire-hold s t c (r ∷ rs) d all = (
  all r (rw (eq-eqb r r refl) refl),
  expire-hold s t (c ++ entry t (row.Expire r) ∷ []) rs d.1
      (λ q h. rw (waiting-end c (entry t (row.Expire r)) r refl refl refl refl, contains-filter (λ (q : ℕ). not (r == q)) q (waiting c), all q (or_right (r == q) (contains q rs) h)) (apart_from r q rs d.0 h)),
)

-- the expiries are proper
pub expiries-hold : (s : Spec) (t : ℕ) (c : Trace) → IsNumbered c → Holds (IsProper s) c (expiries s t c)
unfolding expiries
expiries-hold s t c num = expire-hold s t c (due s t c) (due_distinct s t c num) (due_waits s t c)

-- ---- then, where a pod is lost, its requests

-- a live request is live once
pub live_distinct : (c : Trace) → IsNumbered c → AreDistinct (live c)
unfolding live
live_distinct c num = distinct-filter (λ r. not (ended c r)) (each_row taken_by c) num.once

-- a request that was taken in and has not ended is live
pub is_live : (c : Trace) (r : ℕ) → contains r (each_row taken_by c) ≡ true → ended c r ≡ false → contains r (live c) ≡ true
unfolding live
is_live c r taken on = in_filter (λ q. not (ended c q)) r (each_row taken_by c) taken (rw on refl)

-- who ends is live no more
pub live-end : (c : Trace) (e : Entry) (r : ℕ) → taken_by e.row ≡ None → ended_by e.row ≡ Some r → live (c ++ e ∷ []) ≡ others r (live c)
unfolding live
live-end c e r taken ends =
    view-less taken_by (λ q. not (ended c q)) (λ q. not (ended (c ++ e ∷ []) q)) c e r taken
    (λ q. ap (λ (b : Bool). not b) (ended-push c e q) ∙ rw ends (by (ended c q) (r == q)))
  where
    by : (g m : Bool) → not (g || m) ≡ (not g && not m)
    by true m = refl
    by false m = refl

-- who is at a pod is live
pub at_pod_live : (c : Trace) (p r : ℕ) → IsNumbered c → contains r (at_pod c p) ≡ true → contains r (live c) ≡ true
unfolding live
at_pod_live c p r num h =
    let both = at_pod_member c p r h in
    is_live c r (moved_taken c r num (within-from (brought_to p) moved_by (brought_moved p) r c both.0)) both.1

lost-hold : (s : Spec) (t : ℕ) (c : Trace) (p : ℕ) (rs : List ℕ) → AreDistinct rs → ((r : ℕ) → contains r rs ≡ true → contains r (at_pod c p) ≡ true) → Holds (IsProper s) c (map (λ r. entry t (row.LostRequest r)) rs)
lost-hold s t c p [] d all = tt
lost-hold s t c p (r ∷ rs) d all = (
  (p, all r (rw (eq-eqb r r refl) refl)),
  lost-hold s t (c ++ entry t (row.LostRequest r) ∷ []) p rs d.1
      (λ q h. rw (at_pod-end c (entry t (row.LostRequest r)) r p refl refl, contains-filter (λ (q : ℕ). not (r == q)) q (at_pod c p), all q (or_right (r == q) (contains q rs) h)) (apart_from r q rs d.0 h)),
)

-- the losses are proper
pub losses-hold : (s : Spec) (t : ℕ) (c : Trace) (a : Act) → IsNumbered c → Holds (IsProper s) c (losses t c a)
unfolding losses lost_with live
losses-hold s t c (act.Lost p) num = by (contains p (live_pods c))
  where
    by : (b : Bool) → Holds (IsProper s) c (losses_at b t c p)
    by true = lost-hold s t c p (lost_with c p) (distinct-filter (λ r. contains r (at_pod c p)) (live c) (distinct-filter (λ r. not (ended c r)) (each_row taken_by c) num.once))
        (λ r h. (filter_member (λ r. contains r (at_pod c p)) r (live c) h).1)
    by false = tt
losses-hold s t c a num = tt

-- so are all that come before the act's own row
pub departures-hold : (s : Spec) (c : Trace) (e : Event) → Kept s c → Holds (IsProper s) c (departures s c e)
unfolding departures
departures-hold s c e kept =
    let gone = expiries s e.time c in
    let one = expiries-hold s e.time c kept.requests in
    Holds-append (IsProper s) c gone (losses e.time (c ++ gone) e.act) one (losses-hold s e.time (c ++ gone) e.act (Holds-kept s c gone kept one).requests)

-- who is at the pod after these losses was there before, and is none of them
lost-leave : (t : ℕ) (c : Trace) (p r : ℕ) (rs : List ℕ) → contains r (at_pod (c ++ map (λ q. entry t (row.LostRequest q)) rs) p) ≡ true → (contains r (at_pod c p) ≡ true) × (contains r rs ≡ false)
lost-leave t c p r [] h = (rw (append-nil c) at h, refl)
lost-leave t c p r (q ∷ rs) h =
    let e = entry t (row.LostRequest q) in
    let rest = lost-leave t (c ++ e ∷ []) p r rs (rw (append_assoc c (e ∷ []) (map (λ q. entry t (row.LostRequest q)) rs)) h) in
    let both = filter_member (λ (x : ℕ). not (q == x)) r (at_pod c p) (rw (at_pod-end c e q p refl refl) at rest.0) in
    (both.0, rw (not-true (q == r) both.1) rest.1)

none-there : (xs : List ℕ) → ((r : ℕ) → contains r xs ≡ true → ⊥) → xs ≡ []
none-there [] h = refl
none-there (x ∷ xs) h = absurd (h x (rw (eq-eqb x x refl) refl))

losses-clear : (t : ℕ) (c : Trace) (p : ℕ) → IsNumbered c → contains p (live_pods (c ++ losses t c (act.Lost p))) ≡ true → at_pod (c ++ losses t c (act.Lost p)) p ≡ []
unfolding losses lost_with
losses-clear t c p num = by (contains p (live_pods c)) refl
  where
    by : (b : Bool) → contains p (live_pods c) ≡ b → contains p (live_pods (c ++ losses_at b t c p)) ≡ true → at_pod (c ++ losses_at b t c p) p ≡ []
    by true k h = none-there (at_pod (c ++ map (λ r. entry t (row.LostRequest r)) (lost_with c p)) p) (λ r there.
        let both = lost-leave t c p r (lost_with c p) there in
        let lost : contains r (lost_with c p) ≡ true = in_filter (λ q. contains q (at_pod c p)) r (live c) (at_pod_live c p r num both.0) both.0 in
        let kept = both.1 in absurd (cc))
    by false k h = absurd (let live : contains p (live_pods c) ≡ true = rw (append-nil c) at h in cc)

-- after the departures it is so
pub departures-clear : (s : Spec) (c : Trace) (e : Event) → Kept s c → IsCleared (c ++ departures s c e) e.act
unfolding departures
departures-clear s c e kept p lost =
    let gone = expiries s e.time c in
    let kept1 = Holds-kept s c gone kept (expiries-hold s e.time c kept.requests) in
    let all : ((c ++ gone) ++ losses e.time (c ++ gone) e.act) ≡ c ++ (gone ++ losses e.time (c ++ gone) e.act) = append_assoc c gone (losses e.time (c ++ gone) e.act) in
    let P : Act → Type 0 = λ a. contains p (live_pods ((c ++ gone) ++ losses e.time (c ++ gone) a)) ≡ true → at_pod ((c ++ gone) ++ losses e.time (c ++ gone) a) p ≡ [] in
    let Q : Trace → Type 0 = λ d. contains p (live_pods d) ≡ true → at_pod d p ≡ [] in
    subst Q all (subst P (sym lost) (losses-clear e.time (c ++ gone) p kept1.requests))

-- ---- then the act's own row

contains-index : (i : ℕ) (d : ℕ) (xs : List ℕ) → i < length xs → contains (slice_index_or xs i d) xs ≡ true
contains-index i d [] h = absurd (omega arith)
contains-index zero d (x ∷ xs) h = rw (eq-eqb x x refl) refl
contains-index (suc i) d (x ∷ xs) h = or_right (x == slice_index_or xs i d) _ (contains-index i d xs (omega arith))

-- the pod in turn is one of them
turn_ready : (n p : ℕ) (ps : List ℕ) → contains (slice_index (p ∷ ps) (n % length (p ∷ ps))) (p ∷ ps) ≡ true
turn_ready n p ps = contains-index (n % length (p ∷ ps)) _ (p ∷ ps) (omega arith)

-- a request past the activator meets a full pod, or one with room
direct-hold : (s : Spec) (t : ℕ) (c : Trace) (p : ℕ) (ps : List ℕ) → ready_pods c ≡ p ∷ ps → length (live c) < live_most → Holds (IsProper s) c (entries_of t (Some (direct_row c (p ∷ ps))))
direct-hold s t c p ps ready room = by (pod_full c q) refl
  where
    q : ℕ
    q = slice_index (p ∷ ps) (direct_turn c % length (p ∷ ps))

    by : (b : Bool) → pod_full c q ≡ b → Holds (IsProper s) c (entries_of t (Some (cond b (row.QueueFull (arrivals c) (Some q)) (row.Direct (arrivals c) q))))
    by true e = ((record { number = refl; room = room }, e), tt)
    by false e = ((record { number = refl; room = room }, record { ready = rw ready (turn_ready (direct_turn c) p ps); room = e }), tt)

-- a request at the activator meets a full breaker, or one with room
admission-hold : (s : Spec) (t : ℕ) (c : Trace) (tag : ℕ) → length (live c) < live_most → Holds (IsProper s) c (entries_of t (Some (admission_row s c tag)))
admission-hold s t c tag room = by (breaker_full s c) refl
  where
    by : (b : Bool) → breaker_full s c ≡ b → Holds (IsProper s) c (entries_of t (Some (cond b (row.QueueFull (arrivals c) None) (row.Admit (arrivals c) tag))))
    by true e = ((record { number = refl; room = room }, e), tt)
    by false e = ((record { number = refl; room = room }, e), tt)

arrival-hold : (m : Mode) (s : Spec) (t : ℕ) (c : Trace) (ps : List ℕ) (tag : ℕ) → ready_pods c ≡ ps → length (live c) < live_most → Holds (IsProper s) c (entries_of t (Some (arrival_row m s c ps tag)))
arrival-hold mode.Serve s t c (p ∷ ps) tag ready room = direct-hold s t c p ps ready room
arrival-hold mode.Serve s t c [] tag ready room = admission-hold s t c tag room
arrival-hold mode.Proxy s t c ps tag ready room = admission-hold s t c tag room

-- the row of an act is proper, whichever it is
pub act-holds : (s : Spec) (t : ℕ) (c : Trace) (a : Act) → IsCleared c a → Holds (IsProper s) c (entries_of t (act_row s c a))
unfolding act_row starting_pods
act-holds s t c (act.Arrive tag) clear = by (nat_le live_most (length (live c))) refl
  where
    by : (m : Bool) → nat_le live_most (length (live c)) ≡ m → Holds (IsProper s) c (entries_of t (Some (cond m (row.Overload (arrivals c)) (arrival_row (mode_of c) s c (ready_pods c) tag))))
    by true e = let many : live_most ≤ length (live c) = grind (arith, nat_tests) in ((refl, many), tt)
    by false e = let few : length (live c) < live_most = grind (arith, nat_tests) in arrival-hold (mode_of c) s t c (ready_pods c) tag refl few
act-holds s t c (act.Finish r ok) clear = by (is_running c r) refl
  where
    by : (b : Bool) → is_running c r ≡ b → Holds (IsProper s) c (entries_of t (Some (cond b (row.Finish r ok) (row.NotRunning r))))
    by true e = (e, tt)
    by false e = (tt, tt)
act-holds s t c (act.Cancel r) clear = by (contains r (waiting c)) refl
  where
    by : (b : Bool) → contains r (waiting c) ≡ b → Holds (IsProper s) c (entries_of t (Some (cond b (row.Cancel r) (row.NotWaiting r))))
    by true e = (e, tt)
    by false e = (tt, tt)
act-holds s t c act.Pass clear = tt
act-holds s t c (act.Ready p) clear = by (contains p (live_pods c)) (is_starting c p) refl refl
  where
    by : (m b : Bool) → contains p (live_pods c) ≡ m → is_starting c p ≡ b → Holds (IsProper s) c (entries_of t (Some (cond m (cond b (row.Ready p) (row.NotStarting p)) (row.NoPod p))))
    by true true e f = (in_filter (is_starting c) p (each_row created_by c) (live_pod_created c p e) f, tt)
    by true false e f = (tt, tt)
    by false b e f = (tt, tt)
act-holds s t c (act.Limit p n) clear = by (contains p (live_pods c)) refl
  where
    by : (m : Bool) → contains p (live_pods c) ≡ m → Holds (IsProper s) c (entries_of t (Some (cond m (row.Limit p n) (row.NoPod p))))
    by true e = (e, tt)
    by false e = (tt, tt)
act-holds s t c (act.Lost p) clear = by (contains p (live_pods c)) refl
  where
    by : (m : Bool) → contains p (live_pods c) ≡ m → Holds (IsProper s) c (entries_of t (Some (cond m (row.LostPod p) (row.NoPod p))))
    by true e = ((e, clear p refl e), tt)
    by false e = (tt, tt)
act-holds s t c act.Tick clear = tt

-- ---- the assignments

-- each assignment is of the first held request, to a Ready pod with a free seat, while there is room
pub assignments-hold : (s : Spec) (t : ℕ) (c : Trace) (rs : List ℕ) → held c ≡ rs → AreDistinct rs → Holds (IsProper s) c (assignments_of s t c rs)
unfolding assignments_of
assignments-hold s t c [] e d = tt
assignments-hold s t c (r ∷ rs) e d =
    by (next_choice s c) refl (λ p. assignments-hold s t (c ++ entry t (row.Assign r p) ∷ []) rs (held-assign c t r p ∙ ap (λ (l : List ℕ). others r l) e ∙ filter-first r rs d) d.1)
  where
    by : (o : Option ℕ) → next_choice s c ≡ o → ((p : ℕ) → Holds (IsProper s) (c ++ entry t (row.Assign r p) ∷ []) (assignments_of s t (c ++ entry t (row.Assign r p) ∷ []) rs))
        → Holds (IsProper s) c (while_chosen o (λ p. entry t (row.Assign r p)) (λ x. assignments_of s t (c ++ x ∷ []) rs))
    by None h rest = tt
    by (Some p) h rest =
        let good = next_choice-good s c p h in
        (record { first = rw e refl; ready = good.1; free = good.2; room = good.0 }, rest p)
