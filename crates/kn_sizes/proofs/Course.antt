-- How one request goes on, row by row and over events.
use Rattle.std.proofs.Common.{◌≡◌, ℕ, Bool, true, false, not, ◌&&◌, ◌||◌, ◌⊎◌, inl, inr, List, [], ◌∷◌, ◌++◌, map, refl, sym, ap, ◌∙◌, append-nil, append_assoc}
use Rattle.std.specs.Prelude.{Option, None, Some, ◌==◌, ⊤}
use Rattle.std.specs.List.{filter}
use Rattle.std.proofs.lemmas.Bool.{eqb-true, eq-eqb, or_right}
use Rattle.std.proofs.lemmas.List.Elements.{filter_map-append}
use Rattle.kn_event.specs.declared.entry.Entry.{Entry}
use Rattle.kn_event.specs.declared.entry.Row.{Row}
use Rattle.kn_event.specs.declared.entry.Row.TheVariants as row
use Rattle.kn_event.specs.declared.event.Act.{Act}
use Rattle.kn_event.specs.declared.event.Act.TheVariants as act
use Rattle.kn_event.specs.declared.event.Event.{Event}
use Rattle.kn_event.specs.declared.revision.Spec.{Spec}
use Rattle.kn_event.specs.Lists.{contains}
use Rattle.kn_trace.specs.Outcome.{Cancelled, Expired, outcome_of}
use Rattle.kn_trace.specs.Rows.{assigned_by, ended_by, pod_by, run_by, taken_by}
use Rattle.kn_trace.specs.Trace.{Trace, entry, assigned, at_pod, each_row, has_not_begun, has_run, is_running, live, live_pods, pod_of, waiting}
use Rattle.kn_trace.specs.Events.{act_row, departures, entries_of, expiries, losses, losses_at, lost_with, react}
use Rattle.kn_trace.specs.Report.{is_expire}
use Rattle.kn_record.specs.Admission.{is_at, place_at, place_of, placed}
use Rattle.kn_record.specs.Made.{Holds, IsMade, IsNumbered, IsProper}
use Rattle.kn_record.specs.Rows.{says}
use Rattle.kn_record.specs.Kept.{Kept}
use Rattle.kn_record.specs.Facts.{Facts}
use Rattle.kn_laws.specs.ByAct.{IsByAct}
use Rattle.kn_laws.specs.Kinds.{Each, EachIs, IsActRow, is_act_row}
use Rattle.kn_laws.specs.Facts.{PartFacts}
use Rattle.kn_sizes.specs.Course.{IsUnfinished, MayEnd}
use Rattle.kn_sizes.proofs.Outcomes.{live_outcome, outcome_comes, outcome_stays}
use Rattle.kn_sizes.proofs.Serving.{runs-push, waiting_idle}
use Rattle.kn_sizes.proofs.Telling.{is_later_row, later-rows, later_of, react-split}

-- a finish and a loss are of the act, and a loss is of a request at the act's pod
abbrev pub IsEndBy : (ℕ → Option ℕ) → Act → Row → Type 0
IsEndBy pod a (row.Finish q ok) = a ≡ act.Finish q ok
IsEndBy pod a (row.LostRequest q) = (p : ℕ) × (pod q ≡ Some p) × (a ≡ act.Lost p)
IsEndBy pod a _ = ⊤

-- a list after another
EachIs-append : (P : Row → Type 0) (xs ys : Trace) → EachIs P xs → EachIs P ys → EachIs P (xs ++ ys)
EachIs-append P [] ys h k = k
EachIs-append P (e ∷ xs) ys h k = (h.0, EachIs-append P xs ys h.1 k)

pub ends-each : (pod : ℕ → Option ℕ) (a : Act) (test : Row → Bool) → ((x : Row) → test x ≡ true → IsEndBy pod a x) → (es : Trace) → Each test es → EachIs (IsEndBy pod a) es
ends-each pod a test is [] h = tt
ends-each pod a test is (e ∷ es) h = (is e.row h.0, ends-each pod a test is es h.1)

pub expire_ends : (pod : ℕ → Option ℕ) (a : Act) (x : Row) → is_expire x ≡ true → IsEndBy pod a x
expire_ends pod a (row.Expire r) h = tt
expire_ends pod a _ h = absurd (cc)

later_ends : (pod : ℕ → Option ℕ) (a : Act) (x : Row) → is_later_row x ≡ true → IsEndBy pod a x
later_ends pod a (row.Finish r ok) h = absurd (cc)
later_ends pod a (row.LostRequest r) h = absurd (cc)
later_ends pod a _ h = tt

own_ends : (pod : ℕ → Option ℕ) (a : Act) (x : Row) → is_act_row x ≡ true → IsByAct a x → IsEndBy pod a x
own_ends pod a (row.Finish r ok) h k = k
own_ends pod a (row.LostRequest r) h k = absurd (cc)
own_ends pod a _ h k = tt

expire_moves : (q : ℕ) (x : Row) → is_expire x ≡ true → pod_by q x ≡ None
expire_moves q (row.Expire r) h = refl
expire_moves q _ h = absurd (cc)

module _ (facts : Facts) (parts : PartFacts) where
  open facts use {lists.{filter_member, in_filter}, entries.{contains-push, has_not_begun-push, is_running-push}, members.{waiting_member, by_place}, proper.{Kept-push, Holds-kept, made_kept, expiries-hold, react-holds}}
  open parts use {each.{none-rows}, rows.{expiries-rows, act-facts}}

  -- ---- by one row

  -- a row that doesn't end a waiting request leaves it waiting, or lets it run
  waits-push : (c : Trace) (e : Entry) (r : ℕ) → contains r (waiting c) ≡ true → says (ended_by e.row) r ≡ false → (contains r (waiting (c ++ e ∷ [])) ≡ true) ⊎ (is_running (c ++ e ∷ []) r ≡ true)
  unfolding waiting
  waits-push c e r h out =
      let both = waiting_member c r h in
      by (says (assigned_by e.row) r) (says (run_by e.row) r) (
        has_not_begun-push c e r ∙ rw (both.1.assigned, both.1.run, both.1.ended, out) refl,
        is_running-push c e r ∙ rw (both.1.assigned, both.1.run, both.1.ended, out) refl,
        contains-push taken_by c e r ∙ rw (both.0) refl,
      )
    where
      by : (x y : Bool) → (has_not_begun (c ++ e ∷ []) r ≡ (not (x || y) && true)) × (is_running (c ++ e ∷ []) r ≡ ((x || y) && true)) × (contains r (each_row taken_by (c ++ e ∷ [])) ≡ true)
          → (contains r (filter (has_not_begun (c ++ e ∷ [])) (each_row taken_by (c ++ e ∷ []))) ≡ true) ⊎ (is_running (c ++ e ∷ []) r ≡ true)
      by true y h = inr (h.1)
      by false true h = inr (h.1)
      by false false h = inl (in_filter (has_not_begun (c ++ e ∷ [])) r (each_row taken_by (c ++ e ∷ [])) h.2 h.0)

  -- a row that doesn't end a request leaves it unfinished
  unfinished-kept : (c : Trace) (e : Entry) (r : ℕ) → IsUnfinished c r → says (ended_by e.row) r ≡ false → IsUnfinished (c ++ e ∷ []) r
  unfinished-kept c e r (inl waits) out = by (waits-push c e r waits out)
    where
      by : (contains r (waiting (c ++ e ∷ [])) ≡ true) ⊎ (is_running (c ++ e ∷ []) r ≡ true) → IsUnfinished (c ++ e ∷ []) r
      by (inl k) = inl k
      by (inr k) = inr (inl k)
  unfinished-kept c e r (inr (inl runs)) out = inr (inl (runs-push facts c e r runs out))
  unfinished-kept c e r (inr (inr (inl o))) out = inr (inr (inl (outcome_stays c (e ∷ []) r Expired o)))
  unfinished-kept c e r (inr (inr (inr o))) out = inr (inr (inr (outcome_stays c (e ∷ []) r Cancelled o)))

  waits_open : (c : Trace) (q : ℕ) → IsNumbered c → contains q (waiting c) ≡ true → outcome_of c q ≡ None
  waits_open c q num h = let both = waiting_member c q h in live_outcome facts c q num both.0 both.1.ended

  unfinished-row : (s : Spec) (pod : ℕ → Option ℕ) (a : Act) (c : Trace) (t : ℕ) (x : Row) (r : ℕ) → IsNumbered c → IsProper s c x → IsEndBy pod a x → IsUnfinished c r
      → IsUnfinished (c ++ entry t x ∷ []) r ⊎ MayEnd r (pod r) a
  unfinished-row s pod a c t (row.Finish q ok) r num h own on = by (q == r) refl
    where
      by : (b : Bool) → (q == r) ≡ b → IsUnfinished (c ++ entry t (row.Finish q ok) ∷ []) r ⊎ MayEnd r (pod r) a
      by true e = inr (inl (ok, own ∙ ap (λ (n : ℕ). act.Finish n ok) (eqb-true q r e)))
      by false e = inl (unfinished-kept c (entry t (row.Finish q ok)) r on e)
  unfinished-row s pod a c t (row.LostRequest q) r num h own on = by (q == r) refl
    where
      by : (b : Bool) → (q == r) ≡ b → IsUnfinished (c ++ entry t (row.LostRequest q) ∷ []) r ⊎ MayEnd r (pod r) a
      by true e = inr (inr (own.0, ap pod (sym (eqb-true q r e)) ∙ own.1, own.2))
      by false e = inl (unfinished-kept c (entry t (row.LostRequest q)) r on e)
  unfinished-row s pod a c t (row.Expire q) r num h own on = by (q == r) refl
    where
      by : (b : Bool) → (q == r) ≡ b → IsUnfinished (c ++ entry t (row.Expire q) ∷ []) r ⊎ MayEnd r (pod r) a
      by true e = let same : q ≡ r = eqb-true q r e in inl (inr (inr (inl (outcome_comes c (entry t (row.Expire q)) r Expired (rw (← same) (waits_open c q num h)) (rw e refl)))))
      by false e = inl (unfinished-kept c (entry t (row.Expire q)) r on e)
  unfinished-row s pod a c t (row.Cancel q) r num h own on = by (q == r) refl
    where
      by : (b : Bool) → (q == r) ≡ b → IsUnfinished (c ++ entry t (row.Cancel q) ∷ []) r ⊎ MayEnd r (pod r) a
      by true e = let same : q ≡ r = eqb-true q r e in inl (inr (inr (inr (outcome_comes c (entry t (row.Cancel q)) r Cancelled (rw (← same) (waits_open c q num h)) (rw e refl)))))
      by false e = inl (unfinished-kept c (entry t (row.Cancel q)) r on e)
  unfinished-row s pod a c t x r num h own on = inl (unfinished-kept c (entry t x) r on refl)

  unfinished-rows : (s : Spec) (pod : ℕ → Option ℕ) (a : Act) (c es : Trace) (r : ℕ) → Kept s c → Holds (IsProper s) c es → EachIs (IsEndBy pod a) es → IsUnfinished c r → IsUnfinished (c ++ es) r ⊎ MayEnd r (pod r) a
  unfinished-rows s pod a c [] r kept h own on = inl (rw (append-nil c) on)
  unfinished-rows s pod a c (e ∷ es) r kept h own on =
      by (unfinished-row s pod a c e.time e.row r kept.requests h.0 own.0 on) (λ k. unfinished-rows s pod a (c ++ e ∷ []) es r (Kept-push s c e kept h.0) h.1 own.1 k)
    where
      by : IsUnfinished (c ++ e ∷ []) r ⊎ MayEnd r (pod r) a → (IsUnfinished (c ++ e ∷ []) r → IsUnfinished ((c ++ e ∷ []) ++ es) r ⊎ MayEnd r (pod r) a) → IsUnfinished (c ++ e ∷ es) r ⊎ MayEnd r (pod r) a
      by (inl k) rest = rw (append_assoc c (e ∷ []) es) at (rest k)
      by (inr k) rest = inr k

  -- a running one runs on
  runs-row : (s : Spec) (pod : ℕ → Option ℕ) (a : Act) (c : Trace) (t : ℕ) (x : Row) (r : ℕ) → IsProper s c x → IsEndBy pod a x → is_running c r ≡ true → (is_running (c ++ entry t x ∷ []) r ≡ true) ⊎ MayEnd r (pod r) a
  runs-row s pod a c t (row.Finish q ok) r h own on = by (q == r) refl
    where
      by : (b : Bool) → (q == r) ≡ b → (is_running (c ++ entry t (row.Finish q ok) ∷ []) r ≡ true) ⊎ MayEnd r (pod r) a
      by true e = inr (inl (ok, own ∙ ap (λ (n : ℕ). act.Finish n ok) (eqb-true q r e)))
      by false e = inl (runs-push facts c (entry t (row.Finish q ok)) r on e)
  runs-row s pod a c t (row.LostRequest q) r h own on = by (q == r) refl
    where
      by : (b : Bool) → (q == r) ≡ b → (is_running (c ++ entry t (row.LostRequest q) ∷ []) r ≡ true) ⊎ MayEnd r (pod r) a
      by true e = inr (inr (own.0, ap pod (sym (eqb-true q r e)) ∙ own.1, own.2))
      by false e = inl (runs-push facts c (entry t (row.LostRequest q)) r on e)
  runs-row s pod a c t (row.Expire q) r h own on = inl (runs-push facts c (entry t (row.Expire q)) r on (waiting_idle facts c q r h on))
  runs-row s pod a c t (row.Cancel q) r h own on = inl (runs-push facts c (entry t (row.Cancel q)) r on (waiting_idle facts c q r h on))
  runs-row s pod a c t x r h own on = inl (runs-push facts c (entry t x) r on refl)

  pub runs-rows : (s : Spec) (pod : ℕ → Option ℕ) (a : Act) (c es : Trace) (r : ℕ) → Holds (IsProper s) c es → EachIs (IsEndBy pod a) es → is_running c r ≡ true → (is_running (c ++ es) r ≡ true) ⊎ MayEnd r (pod r) a
  runs-rows s pod a c [] r h own on = inl (rw (append-nil c) on)
  runs-rows s pod a c (e ∷ es) r h own on = by (runs-row s pod a c e.time e.row r h.0 own.0 on) (λ k. runs-rows s pod a (c ++ e ∷ []) es r h.1 own.1 k)
    where
      by : (is_running (c ++ e ∷ []) r ≡ true) ⊎ MayEnd r (pod r) a → (is_running (c ++ e ∷ []) r ≡ true → (is_running ((c ++ e ∷ []) ++ es) r ≡ true) ⊎ MayEnd r (pod r) a) → (is_running (c ++ e ∷ es) r ≡ true) ⊎ MayEnd r (pod r) a
      by (inl k) rest = rw (append_assoc c (e ∷ []) es) at (rest k)
      by (inr k) rest = inr k

  -- ---- by one event

  -- who is at a pod came there last
  pub pod_there : (c : Trace) (p r : ℕ) → IsNumbered c → contains r (at_pod c p) ≡ true → pod_of c r ≡ Some p
  unfolding placed place_of
  pod_there c p r num h = by (pod_of c r) (assigned c r) (has_run c r) (filter_member (λ r. is_at p (place_of c r)) r (live c) (sym ((by_place c num).is_at_pod p r) ∙ h)).1
    where
      by : (o : Option ℕ) (a n : Bool) → is_at p (place_at o a n) ≡ true → o ≡ Some p
      by None a n k = absurd (cc)
      by (Some q) true n k = ap (λ (n : ℕ). Some n) (eqb-true q p k)
      by (Some q) false true k = ap (λ (n : ℕ). Some n) (eqb-true q p k)
      by (Some q) false false k = ap (λ (n : ℕ). Some n) (eqb-true q p k)

  -- expiries bring nobody to a pod
  expired_pod : (s : Spec) (t : ℕ) (c : Trace) (q : ℕ) → pod_of (c ++ expiries s t c) q ≡ pod_of c q
  unfolding pod_of
  expired_pod s t c q = rw (filter_map-append (λ (e : Entry). pod_by q e.row) c (expiries s t c), none-rows (pod_by q) is_expire (expire_moves q) (expiries s t c) (expiries-rows s t c), append-nil (each_row (pod_by q) c)) refl

  -- the losses are of requests at the act's pod
  losses_end : (s : Spec) (c : Trace) (t u : ℕ) (a : Act) → Kept s c → EachIs (IsEndBy (pod_of c) a) (losses t (c ++ expiries s u c) a)
  unfolding losses lost_with
  losses_end s c t u (act.Lost p) kept = by (contains p (live_pods d))
    where
      d : Trace
      d = c ++ expiries s u c

      num : IsNumbered d
      num = (Holds-kept s c (expiries s u c) kept (expiries-hold s u c kept.requests)).requests

      each : (rs : List ℕ) → ((r : ℕ) → contains r rs ≡ true → contains r (at_pod d p) ≡ true) → EachIs (IsEndBy (pod_of c) (act.Lost p)) (map (λ r. entry t (row.LostRequest r)) rs)
      each [] all = tt
      each (r ∷ rs) all = ((p, sym (expired_pod s u c r) ∙ pod_there d p r num (all r (rw (eq-eqb r r refl) refl)), refl), each rs (λ q h. all q (or_right (r == q) (contains q rs) h)))

      by : (b : Bool) → EachIs (IsEndBy (pod_of c) (act.Lost p)) (losses_at b t d p)
      by true = each (lost_with d p) (λ r h. (filter_member (λ r. contains r (at_pod d p)) r (live d) h).1)
      by false = tt
  losses_end s c t u a kept = tt

  own-end : (s : Spec) (t : ℕ) (c : Trace) (pod : ℕ → Option ℕ) (a : Act) → EachIs (IsEndBy pod a) (entries_of t (act_row s c a))
  own-end s t c pod a = by (act_row s c a) (act-facts s c a)
    where
      by : (o : Option Row) → IsActRow a o → EachIs (IsEndBy pod a) (entries_of t o)
      by None h = tt
      by (Some x) h = (own_ends pod a x h.0 h.1, tt)

  departures_end : (s : Spec) (c : Trace) (e : Event) → Kept s c → EachIs (IsEndBy (pod_of c) e.act) (departures s c e)
  unfolding departures
  departures_end s c e kept =
      EachIs-append (IsEndBy (pod_of c) e.act) (expiries s e.time c) (losses e.time (c ++ expiries s e.time c) e.act)
      (ends-each (pod_of c) e.act is_expire (expire_ends (pod_of c) e.act) (expiries s e.time c) (expiries-rows s e.time c)) (losses_end s c e.time e.time e.act kept)

  react-ends : (s : Spec) (c : Trace) (e : Event) → Kept s c → EachIs (IsEndBy (pod_of c) e.act) (react s c e)
  react-ends s c e kept =
      let P = IsEndBy (pod_of c) e.act in
      let own = entries_of e.time (act_row s (c ++ departures s c e) e.act) in
      rw (react-split s c e)
      (EachIs-append P (departures s c e) (own ++ later_of s c e) (departures_end s c e kept)
      (EachIs-append P own (later_of s c e) (own-end s e.time (c ++ departures s c e) (pod_of c) e.act)
      (ends-each (pod_of c) e.act is_later_row (later_ends (pod_of c) e.act) (later_of s c e) (later-rows facts parts s c e))))

  -- an unfinished request is so still, unless the event finishes it or loses its pod
  pub unfinished_on : (s : Spec) (c : Trace) (e : Event) (r : ℕ) → IsMade s c → IsUnfinished c r → IsUnfinished (c ++ react s c e) r ⊎ MayEnd r (pod_of c r) e.act
  unfinished_on s c e r made on = let kept = made_kept s c made in unfinished-rows s (pod_of c) e.act c (react s c e) r kept (react-holds s c e kept) (react-ends s c e kept) on

  -- and a running one runs on
  pub runs_until : (s : Spec) (c : Trace) (e : Event) (r : ℕ) → IsMade s c → is_running c r ≡ true → (is_running (c ++ react s c e) r ≡ true) ⊎ MayEnd r (pod_of c r) e.act
  runs_until s c e r made on = let kept = made_kept s c made in runs-rows s (pod_of c) e.act c (react s c e) r (react-holds s c e kept) (react-ends s c e kept) on
