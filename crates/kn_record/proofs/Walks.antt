-- One row of each list of rows: what a loop that makes them goes by.
use Rattle.std.proofs.Common.{◌≡◌, ℕ, ◌+◌, Bool, true, false, not, cond, ◌&&◌, ◌||◌, ◌⊎◌, inl, inr, List, [], ◌∷◌, ◌++◌, length, map, nat_le, refl, sym, ap, ◌∙◌, arith, append-nil, append_assoc}
use Rattle.std.specs.Prelude.{None, Some, ◌==◌}
use Rattle.std.specs.List.{cons_option, filter, filter_map}
use Rattle.std.proofs.lemmas.List.Elements.{filter_agree, filter_map-append}
use Rattle.kn_event.specs.declared.entry.Entry.{Entry}
use Rattle.kn_event.specs.declared.entry.Row.TheVariants as row
use Rattle.kn_event.specs.declared.event.Event.{Event}
use Rattle.kn_event.specs.declared.revision.Spec.{Spec}
use Rattle.kn_event.specs.Lists.{contains}
use Rattle.kn_trace.specs.Rows.{created_by, drained_by, gone_by}
use Rattle.kn_trace.specs.Trace.{Trace, entry, assigned, at_pod, draining, each_row, ended, first_of, has_begun, has_free_seat, has_not_begun, has_run, held, is_draining, is_empty, is_live_pod, queued_at}
use Rattle.kn_trace.specs.Settling.{assignments_of, held_assignments, next_choice, promotions, promotions_at, removals}
use Rattle.kn_trace.specs.Events.{act_rows, before_settling, departures, due, due_by, expiries, react}
use Rattle.kn_record.specs.declared.admission.Pod.{Pod}
use Rattle.kn_record.specs.Admission.{Admission, is_at, is_held_place, next_in, placed_in, queues_at, stepped}
use Rattle.kn_record.specs.Made.{AreDistinct, Holds, IsMade, IsNumbered, IsProper, IsRecordOf}
use Rattle.kn_record.specs.Views.{due_in, has_free_seat_in, is_free, is_pod_where, pod_numbered, pod_numbers, others}
use Rattle.kn_record.specs.Walks.{ArePartsProper, BeginsWith, leaving_in, promoting, stepped_by}
use Rattle.kn_record.proofs.Members.{distinct-filter, filter-first}
use Rattle.kn_record.proofs.Numbers.{filter_member, first_member}
use Rattle.kn_record.proofs.Steps.{filter-both, at_pod-quiet, has_not_begun-push, held-assign, is_quiet, view-less}
use Rattle.kn_record.proofs.PodSteps.{is_draining-push}
use Rattle.kn_record.proofs.Kept.{Holds-kept, made_kept}
use Rattle.kn_record.proofs.Reacting.{departures-clear, departures-hold, due_distinct, due_waits, expiries-hold, held_distinct, losses-hold, queued_distinct}
use Rattle.kn_record.proofs.Scaling.{activation-holds, acts-hold}
use Rattle.kn_record.proofs.Choosing.{next_choice-good}
use Rattle.kn_record.proofs.Running.{before-holds, draining_distinct, empty_list, queued-next, react-holds, settling-holds}
use Rattle.kn_record.proofs.Appends.{record-push}
use Rattle.kn_record.proofs.Standing.{are_views}

-- ---- expiries

due-less : (s : Spec) (t : ℕ) (c : Trace) (r : ℕ) → due s t (c ++ entry t (row.Expire r) ∷ []) ≡ others r (due s t c)
unfolding due has_not_begun has_begun
due-less s t c r =
    ap (λ (l : List ℕ). filter (has_not_begun (c ++ e ∷ [])) l) (filter_map-append (due_by s.timeout_ms t) c (e ∷ []) ∙ none (nat_le (t + s.timeout_ms) t))
    ∙ filter_agree (has_not_begun (c ++ e ∷ [])) (λ q. has_not_begun c q && not (r == q)) (λ q. has_not_begun-push c e q ∙ by (assigned c q) (has_run c q) (ended c q) (r == q)) (filter_map (due_by s.timeout_ms t) c)
    ∙ filter-both (has_not_begun c) (λ q. not (r == q)) (filter_map (due_by s.timeout_ms t) c)
  where
    e : Entry
    e = entry t (row.Expire r)

    none : (b : Bool) → filter_map (due_by s.timeout_ms t) c ++ cons_option (cond b None None) [] ≡ filter_map (due_by s.timeout_ms t) c
    none true = append-nil _
    none false = append-nil _

    by : (a n g m : Bool) → (not ((a || false) || (n || false)) && not (g || m)) ≡ ((not (a || n) && not g) && not m)
    by true n g m = refl
    by false true g m = refl
    by false false true m = refl
    by false false false m = refl

-- one expiry
expiries-one : (s : Spec) (t : ℕ) (c : Trace) (r : ℕ) → IsNumbered c → first_of (due s t c) ≡ Some r → expiries s t c ≡ entry t (row.Expire r) ∷ expiries s t (c ++ entry t (row.Expire r) ∷ [])
unfolding expiries
expiries-one s t c r num f = by (due s t c) refl f
  where
    by : (l : List ℕ) → due s t c ≡ l → first_of l ≡ Some r → map (λ r. entry t (row.Expire r)) l ≡ entry t (row.Expire r) ∷ map (λ r. entry t (row.Expire r)) (due s t (c ++ entry t (row.Expire r) ∷ []))
    by [] d f = absurd (cc)
    by (q ∷ rs) d f =
        let same : q ≡ r = cc in
        let d2 : due s t c ≡ r ∷ rs = cc in
        let rest : due s t (c ++ entry t (row.Expire r) ∷ []) ≡ rs = due-less s t c r ∙ ap (λ (l : List ℕ). others r l) d2 ∙ filter-first r rs (rw d2 at (due_distinct s t c num)) in
        rw (rest, same) refl

-- none is due
expiries-end : (s : Spec) (t : ℕ) (c : Trace) → first_of (due s t c) ≡ None → expiries s t c ≡ []
unfolding expiries
expiries-end s t c f = by (due s t c) f
  where
    by : (l : List ℕ) → first_of l ≡ None → map (λ r. entry t (row.Expire r)) l ≡ []
    by [] f = refl
    by (q ∷ rs) f = absurd (cc)

pub walk_expire : (s : Spec) (a : Admission) (c : Trace) (t r : ℕ) → IsRecordOf a c → first_of (due_in s.timeout_ms t a.live) ≡ Some r → BeginsWith (expiries s t) t (row.Expire r) a c
walk_expire s a c t r h f =
    let g : first_of (due s t c) ≡ Some r = ap (λ (l : List ℕ). first_of l) ((are_views s a c h).due t) ∙ f in
    (expiries-one s t c r h.requests g, record-push s a c t (row.Expire r) h (due_waits s t c r (first_member r (due s t c) g)))

pub walk_expired : (s : Spec) (a : Admission) (c : Trace) (t : ℕ) → IsRecordOf a c → first_of (due_in s.timeout_ms t a.live) ≡ None → expiries s t c ≡ []
walk_expired s a c t h f = expiries-end s t c (ap (λ (l : List ℕ). first_of l) ((are_views s a c h).due t) ∙ f)

-- ---- promotions, a pod at a time

-- one run at pod p
promotions-one : (t : ℕ) (c : Trace) (p : ℕ) (ps : List ℕ) (r : ℕ) → IsNumbered c → first_of (queued_at c p) ≡ Some r → has_free_seat c p ≡ true
    → promotions t c (p ∷ ps) ≡ entry t (row.Run r) ∷ promotions t (c ++ entry t (row.Run r) ∷ []) (p ∷ ps)
unfolding promotions promotions_at
promotions-one t c p ps r num f free = by (queued_at c p) refl f
  where
    x : Entry
    x = entry t (row.Run r)

    by : (l : List ℕ) → queued_at c p ≡ l → first_of l ≡ Some r
        → promotions_at t c p l ++ promotions t (c ++ promotions_at t c p l) ps
        ≡ x ∷ (promotions_at t (c ++ x ∷ []) p (queued_at (c ++ x ∷ []) p) ++ promotions t ((c ++ x ∷ []) ++ promotions_at t (c ++ x ∷ []) p (queued_at (c ++ x ∷ []) p)) ps)
    by [] d g = absurd (cc)
    by (q ∷ rs) d g =
        let same : q ≡ r = cc in
        let d2 : queued_at c p ≡ r ∷ rs = cc in
        let after = queued-next c t p r rs d2 (rw d2 at (queued_distinct c p num)) in
        rw (same, free, after, append_assoc c (x ∷ []) (promotions_at t (c ++ x ∷ []) p rs)) refl

-- pod p is done
promotions-next : (t : ℕ) (c : Trace) (p : ℕ) (ps : List ℕ) → (first_of (queued_at c p) ≡ None) ⊎ (has_free_seat c p ≡ false) → promotions t c (p ∷ ps) ≡ promotions t c ps
unfolding promotions promotions_at
promotions-next t c p ps over = by (queued_at c p) over
  where
    by : (l : List ℕ) → (first_of l ≡ None) ⊎ (has_free_seat c p ≡ false) → promotions_at t c p l ++ promotions t (c ++ promotions_at t c p l) ps ≡ promotions t c ps
    by [] o = rw (append-nil c) refl
    by (q ∷ rs) (inl f) = absurd (cc)
    by (q ∷ rs) (inr f) = rw (f, append-nil c) refl

-- a pod with a free seat is there
seat_listed : (test : Pod → Bool) (p : ℕ) (all : List Pod) → is_pod_where test (pod_numbered p all) ≡ true → contains p (pod_numbers all) ≡ true
seat_listed test p [] h = absurd (cc)
seat_listed test p (q ∷ all) h = by (q.number == p) refl (seat_listed test p all)
  where
    by : (m : Bool) → (q.number == p) ≡ m → (is_pod_where test (pod_numbered p all) ≡ true → contains p (pod_numbers all) ≡ true) → (m || contains p (pod_numbers all)) ≡ true
    by true e rest = refl
    by false e rest = rest (rw e at h)

pub walk_promote : (s : Spec) (a : Admission) (c : Trace) (t p : ℕ) (ps : List ℕ) (r : ℕ) → IsRecordOf a c → first_of (placed_in (queues_at p) a.live) ≡ Some r → has_free_seat_in a p ≡ true → BeginsWith (promoting t (p ∷ ps)) t (row.Run r) a c
unfolding promoting
walk_promote s a c t p ps r h f seat =
    let views = are_views s a c h in
    let g : first_of (queued_at c p) ≡ Some r = ap (λ (l : List ℕ). first_of l) (views.queued p) ∙ f in
    let free : has_free_seat c p ≡ true = views.free_at p (seat_listed (is_free a.live) p a.pods seat) ∙ seat in
    (promotions-one t c p ps r h.requests g free, record-push s a c t (row.Run r) h (p, record { first = g; free = free }))

pub walk_promoted : (s : Spec) (a : Admission) (c : Trace) (t p : ℕ) (ps : List ℕ) → IsRecordOf a c → contains p (pod_numbers a.pods) ≡ true → (first_of (placed_in (queues_at p) a.live) ≡ None) ⊎ (has_free_seat_in a p ≡ false)
    → promoting t (p ∷ ps) c ≡ promoting t ps c
unfolding promoting
walk_promoted s a c t p ps h listed over = promotions-next t c p ps (by over)
  where
    by : (first_of (placed_in (queues_at p) a.live) ≡ None) ⊎ (has_free_seat_in a p ≡ false) → (first_of (queued_at c p) ≡ None) ⊎ (has_free_seat c p ≡ false)
    by (inl f) = inl (ap (λ (l : List ℕ). first_of l) ((are_views s a c h).queued p) ∙ f)
    by (inr f) = inr ((are_views s a c h).free_at p listed ∙ f)

-- ---- assignments

-- one assignment
assignments-one : (s : Spec) (t : ℕ) (c : Trace) (r p : ℕ) → IsNumbered c → first_of (held c) ≡ Some r → next_choice s c ≡ Some p
    → held_assignments s t c ≡ entry t (row.Assign r p) ∷ held_assignments s t (c ++ entry t (row.Assign r p) ∷ [])
unfolding held_assignments assignments_of
assignments-one s t c r p num f n = by (held c) refl f
  where
    by : (l : List ℕ) → held c ≡ l → first_of l ≡ Some r → assignments_of s t c l ≡ entry t (row.Assign r p) ∷ assignments_of s t (c ++ entry t (row.Assign r p) ∷ []) (held (c ++ entry t (row.Assign r p) ∷ []))
    by [] d g = absurd (cc)
    by (q ∷ rs) d g =
        let same : q ≡ r = cc in
        let d2 : held c ≡ r ∷ rs = cc in
        let rest : held (c ++ entry t (row.Assign r p) ∷ []) ≡ rs = held-assign c t r p ∙ ap (λ (l : List ℕ). others r l) d2 ∙ filter-first r rs (rw d2 at (held_distinct c num)) in
        rw (n, rest, same) refl

-- none comes next
assignments-end : (s : Spec) (t : ℕ) (c : Trace) → (first_of (held c) ≡ None) ⊎ (next_choice s c ≡ None) → held_assignments s t c ≡ []
unfolding held_assignments assignments_of
assignments-end s t c over = by (held c) over
  where
    by : (l : List ℕ) → (first_of l ≡ None) ⊎ (next_choice s c ≡ None) → assignments_of s t c l ≡ []
    by [] o = refl
    by (q ∷ rs) (inl f) = absurd (cc)
    by (q ∷ rs) (inr n) = rw n refl

pub walk_assign : (s : Spec) (a : Admission) (c : Trace) (t r p : ℕ) → IsRecordOf a c → first_of (placed_in is_held_place a.live) ≡ Some r → next_in s a ≡ Some p → BeginsWith (held_assignments s t) t (row.Assign r p) a c
walk_assign s a c t r p h f n =
    let views = are_views s a c h in
    let g : first_of (held c) ≡ Some r = ap (λ (l : List ℕ). first_of l) views.held ∙ f in
    let m : next_choice s c ≡ Some p = views.next ∙ n in
    let good = next_choice-good s c p m in
    (assignments-one s t c r p h.requests g m, record-push s a c t (row.Assign r p) h (record { first = g; ready = good.1; free = good.2; room = good.0 }))

pub walk_assigned : (s : Spec) (a : Admission) (c : Trace) (t : ℕ) → IsRecordOf a c → (first_of (placed_in is_held_place a.live) ≡ None) ⊎ (next_in s a ≡ None) → held_assignments s t c ≡ []
walk_assigned s a c t h over = assignments-end s t c (by over)
  where
    by : (first_of (placed_in is_held_place a.live) ≡ None) ⊎ (next_in s a ≡ None) → (first_of (held c) ≡ None) ⊎ (next_choice s c ≡ None)
    by (inl f) = inl (ap (λ (l : List ℕ). first_of l) (are_views s a c h).held ∙ f)
    by (inr n) = inr ((are_views s a c h).next ∙ n)

-- ---- removals

-- the draining pods without a request
leaving : Trace → List ℕ
leaving c = filter (λ p. is_empty (at_pod c p)) (draining c)

draining-less : (c : Trace) (t p : ℕ) → draining (c ++ entry t (row.Remove p) ∷ []) ≡ others p (draining c)
unfolding draining is_draining is_live_pod
draining-less c t p =
    view-less created_by (is_draining c) (is_draining (c ++ entry t (row.Remove p) ∷ [])) c (entry t (row.Remove p)) p refl
    (λ q. is_draining-push c (entry t (row.Remove p)) q ∙ by (contains q (each_row drained_by c)) (contains q (each_row gone_by c)) (p == q))
  where
    by : (d g m : Bool) → ((d || false) && not (g || m)) ≡ ((d && not g) && not m)
    by false g m = refl
    by true true m = refl
    by true false m = refl

filters-swap : (t u : ℕ → Bool) (xs : List ℕ) → filter t (filter u xs) ≡ filter u (filter t xs)
filters-swap t u xs = sym (filter-both u t xs) ∙ filter_agree (λ q. u q && t q) (λ q. t q && u q) (λ q. swap (u q) (t q)) xs ∙ filter-both t u xs
  where
    swap : (a b : Bool) → (a && b) ≡ (b && a)
    swap true true = refl
    swap true false = refl
    swap false true = refl
    swap false false = refl

leaving-less : (c : Trace) (t p : ℕ) → leaving (c ++ entry t (row.Remove p) ∷ []) ≡ others p (leaving c)
unfolding leaving
leaving-less c t p =
    filter_agree (λ q. is_empty (at_pod (c ++ entry t (row.Remove p) ∷ []) q)) (λ q. is_empty (at_pod c q)) (λ q. ap (λ (l : List ℕ). is_empty l) (at_pod-quiet c (entry t (row.Remove p)) q (is_quiet (row.Remove p) refl refl refl refl))) (draining (c ++ entry t (row.Remove p) ∷ []))
    ∙ ap (λ (l : List ℕ). filter (λ q. is_empty (at_pod c q)) l) (draining-less c t p)
    ∙ filters-swap (λ q. is_empty (at_pod c q)) (λ q. not (p == q)) (draining c)

leaving_distinct : (c : Trace) → AreDistinct (draining c) → AreDistinct (leaving c)
unfolding leaving
leaving_distinct c d = distinct-filter (λ p. is_empty (at_pod c p)) (draining c) d

-- one removal
removals-one : (t : ℕ) (c : Trace) (p : ℕ) → AreDistinct (draining c) → first_of (leaving c) ≡ Some p → removals t c ≡ entry t (row.Remove p) ∷ removals t (c ++ entry t (row.Remove p) ∷ [])
unfolding removals leaving
removals-one t c p distinct f = by (leaving c) refl f
  where
    by : (l : List ℕ) → leaving c ≡ l → first_of l ≡ Some p → map (λ p. entry t (row.Remove p)) l ≡ entry t (row.Remove p) ∷ map (λ p. entry t (row.Remove p)) (leaving (c ++ entry t (row.Remove p) ∷ []))
    by [] d g = absurd (cc)
    by (q ∷ ps) d g =
        let same : q ≡ p = cc in
        let d2 : leaving c ≡ p ∷ ps = cc in
        let rest : leaving (c ++ entry t (row.Remove p) ∷ []) ≡ ps = leaving-less c t p ∙ ap (λ (l : List ℕ). others p l) d2 ∙ filter-first p ps (rw d2 at (leaving_distinct c distinct)) in
        rw (rest, same) refl

-- none goes
removals-end : (t : ℕ) (c : Trace) → first_of (leaving c) ≡ None → removals t c ≡ []
unfolding removals leaving
removals-end t c f = by (leaving c) f
  where
    by : (l : List ℕ) → first_of l ≡ None → map (λ p. entry t (row.Remove p)) l ≡ []
    by [] f = refl
    by (q ∷ ps) f = absurd (cc)

same-empty : (xs ys : List ℕ) → length xs ≡ length ys → is_empty xs ≡ is_empty ys
same-empty [] [] h = refl
same-empty [] (y ∷ ys) h = absurd (omega arith)
same-empty (x ∷ xs) [] h = absurd (omega arith)
same-empty (x ∷ xs) (y ∷ ys) h = refl

-- they are the record's
leaving-record : (s : Spec) (a : Admission) (c : Trace) → IsRecordOf a c → leaving c ≡ leaving_in a
unfolding leaving
leaving-record s a c h =
    let views = are_views s a c h in
    filter_agree (λ p. is_empty (at_pod c p)) (λ p. is_empty (placed_in (is_at p) a.live)) (λ p. same-empty (at_pod c p) (placed_in (is_at p) a.live) (views.count_at_pod p)) (draining c)
    ∙ ap (λ (l : List ℕ). filter (λ p. is_empty (placed_in (is_at p) a.live)) l) views.draining

leaving-parts : (c : Trace) (p : ℕ) → contains p (leaving c) ≡ true → (contains p (draining c) ≡ true) × (at_pod c p ≡ [])
unfolding leaving
leaving-parts c p h = let both = filter_member (λ p. is_empty (at_pod c p)) p (draining c) h in (both.0, empty_list (at_pod c p) both.1)

pub walk_remove : (s : Spec) (a : Admission) (c : Trace) (t p : ℕ) → IsRecordOf a c → first_of (leaving_in a) ≡ Some p → BeginsWith (removals t) t (row.Remove p) a c
walk_remove s a c t p h f =
    let g : first_of (leaving c) ≡ Some p = ap (λ (l : List ℕ). first_of l) (leaving-record s a c h) ∙ f in
    (removals-one t c p (draining_distinct c h.pods) g, record-push s a c t (row.Remove p) h (leaving-parts c p (first_member p (leaving c) g)))

pub walk_removed : (s : Spec) (a : Admission) (c : Trace) (t : ℕ) → IsRecordOf a c → first_of (leaving_in a) ≡ None → removals t c ≡ []
walk_removed s a c t h f = removals-end t c (ap (λ (l : List ℕ). first_of l) (leaving-record s a c h) ∙ f)

-- ---- a list of rows at once

-- a record that stands for a trace goes on by rows that are all proper
pub walk_rows : (s : Spec) (a : Admission) (c es : Trace) → IsRecordOf a c → Holds (IsProper s) c es → IsRecordOf (stepped_by es a) (c ++ es)
walk_rows s a c [] h p = rw (append-nil c) h
walk_rows s a c (e ∷ es) h p = rw (append_assoc c (e ∷ []) es) at (walk_rows s (stepped e.time e.row a) (c ++ e ∷ []) es (record-push s a c e.time e.row h p.0) p.1)

-- so it goes on by a whole event
pub walk_event : (s : Spec) (a : Admission) (c : Trace) (e : Event) → IsMade s c → IsRecordOf a c → IsRecordOf (stepped_by (react s c e) a) (c ++ react s c e)
walk_event s a c e made h = walk_rows s a c (react s c e) h (react-holds s c e (made_kept s c made))

-- the parts of an event, each proper where it comes
pub parts_proper : (s : Spec) (c : Trace) (e : Event) → IsMade s c → ArePartsProper s c e
parts_proper s c e made =
    let kept = made_kept s c made in
    let gone = expiries-hold s e.time c kept.requests in
    let kept1 = Holds-kept s c (expiries s e.time c) kept gone in
    let kept2 = Holds-kept s c (departures s c e) kept (departures-hold s c e kept) in
    let did = acts-hold s e.time (c ++ departures s c e) e.act kept2 (departures-clear s c e kept) in
    let before = before-holds s c e kept in
    record {
      expiries = gone;
      losses = losses-hold s e.time (c ++ expiries s e.time c) e.act kept1.requests;
      acts = did;
      activation = activation-holds s e.time ((c ++ departures s c e) ++ act_rows s e.time (c ++ departures s c e) e.act);
      settling = settling-holds s e.time (c ++ before_settling s c e) (Holds-kept s c (before_settling s c e) kept before);
    }
