-- What lasts of one request: that it has come, its pod, its assignment, its outcome; and how it ends.
use Rattle.std.proofs.Common.{◌≡◌, ℕ, ◌≤◌, ◌<◌, Bool, true, false, not, cond, ◌&&◌, ◌||◌, ◌⊎◌, inl, inr, List, [], ◌∷◌, ◌++◌, refl, sym, ap, ◌∙◌, arith, append-nil, append_assoc}
use Rattle.std.specs.Prelude.{Option, None, Some, ◌==◌}
use Rattle.std.proofs.lemmas.Bool.{or_cases, or_parts, eq-eqb, and_parts, false_from_ne_true, or_right, ne_eqb, eqb-false}
use Rattle.std.proofs.lemmas.List.Folds.{list_any-append}
use Rattle.std.proofs.lemmas.List.Elements.{filter_map-append}
use Rattle.kn_event.specs.declared.entry.Entry.{Entry}
use Rattle.kn_event.specs.declared.entry.Row.{Row}
use Rattle.kn_event.specs.declared.entry.Row.TheVariants as row
use Rattle.kn_event.specs.declared.event.Act.{Act}
use Rattle.kn_event.specs.declared.event.Act.TheVariants as act
use Rattle.kn_event.specs.declared.event.Event.{Event}
use Rattle.kn_event.specs.declared.revision.Spec.{Spec}
use Rattle.kn_event.specs.Lists.{contains}
use Rattle.kn_trace.specs.Outcome.{Outcome, outcome_of}
use Rattle.kn_trace.specs.Rows.{assigned_by, directed_by, pod_by, taken_by}
use Rattle.kn_trace.specs.Trace.{Trace, entry, arrivals, assigned, each_row, ended, has_not_begun, has_run, is_running, last_of, pod_of, proxied, waiting}
use Rattle.kn_trace.specs.Events.{act_row, departures, need_of, react}
use Rattle.kn_record.specs.Rows.{moved_by, says}
use Rattle.kn_record.specs.Made.{AreDistinct, IsMade, IsNumbered, IsProper}
use Rattle.kn_record.specs.Kept.{Kept}
use Rattle.kn_record.specs.Facts.{Facts}
use Rattle.kn_laws.specs.Kinds.{Each}
use Rattle.kn_laws.specs.Facts.{PartFacts}
use Rattle.kn_sizes.specs.Stays.{HoldsOnwards}
use Rattle.kn_sizes.proofs.Counts.{not_begun-less}
use Rattle.kn_sizes.proofs.Lasting.{stays_always, stays_by, stays_less}
use Rattle.kn_sizes.proofs.Outcomes.{outcome_stays}
use Rattle.kn_sizes.proofs.Telling.{after-parts, arrivals-list, is_later_row, later-rows, later_of, later_plain}

-- ---- who has come

pub arrivals_stay : (s : Spec) (c : Trace) → HoldsOnwards s c (λ d. arrivals c ≤ arrivals d)
arrivals_stay s c = stays_always s (λ d. arrivals c ≤ arrivals d) c (λ es. let all = arrivals-list c es in omega arith)

pub known_stays : (s : Spec) (c : Trace) (r : ℕ) → r < arrivals c → HoldsOnwards s c (λ d. r < arrivals d)
known_stays s c r less = stays_less s (λ d. arrivals c ≤ arrivals d) (λ d. r < arrivals d) c (λ d more. omega arith) (arrivals_stay s c)

-- ---- the outcome

pub outcome_lasts : (s : Spec) (c : Trace) (r : ℕ) (o : Outcome) → outcome_of c r ≡ Some o → HoldsOnwards s c (λ d. outcome_of d r ≡ Some o)
outcome_lasts s c r o h = stays_always s (λ d. outcome_of d r ≡ Some o) c (λ es. outcome_stays c es r o h)

distinct-last : (xs : List ℕ) (r : ℕ) → AreDistinct (xs ++ r ∷ []) → contains r xs ≡ false
distinct-last [] r d = refl
distinct-last (x ∷ xs) r d =
    let both = or_parts (contains x xs) (contains x (r ∷ [])) (sym (list_any-append (λ y. y == x) xs (r ∷ [])) ∙ d.0) in
    let first = or_parts (r == x) false both.1 in
    rw (ne_eqb x r (λ same. eqb-false r x first.0 (sym same))) (distinct-last xs r d.1)

assigned_moved : (r : ℕ) (x : Row) → says (moved_by x) r ≡ false → says (assigned_by x) r ≡ false
assigned_moved r (row.Assign q p) h = h
assigned_moved r _ h = refl

record IsPlaced (r p : ℕ) (a : Bool) (c : Trace) : Type 0 where
  pod : pod_of c r ≡ Some p
  assigned : assigned c r ≡ a

-- ---- the needs

pub cancel_needs : (c : Trace) (r : ℕ) → contains r (waiting c) ≡ true → need_of c (act.Cancel r) ≡ 0
unfolding need_of
cancel_needs c r h = rw h refl

pub finish_needs : (c : Trace) (r : ℕ) (ok : Bool) → is_running c r ≡ true → need_of c (act.Finish r ok) ≡ 0
unfolding need_of
finish_needs c r ok h = rw h refl

pub other_needs : (c : Trace) → (need_of c act.Tick ≡ 1) × ((p : ℕ) → need_of c (act.Ready p) ≡ 1) × (need_of c act.Pass ≡ 1) × ((p n : ℕ) → need_of c (act.Limit p n) ≡ 1) × ((p : ℕ) → need_of c (act.Lost p) ≡ 1) × ((tag : ℕ) → need_of c (act.Arrive tag) ≡ 2)
unfolding need_of
other_needs c = (refl, λ p. refl, refl, λ p n. refl, λ p. refl, λ tag. refl)

module _ (facts : Facts) (parts : PartFacts) where
  open facts use {lists.{contains-filter, filter_member, last_of-none}, kinds.{says-true, moved_pod, moved_parts, contains-split}, entries.{contains-push, assigned-push, pod_of-push}, views.{is_quiet, waiting-quiet, waiting-end}, members.{running_parts, moved-none, pod-none}, proper.{Kept-push}}

  -- ---- the pod

  -- who came to a pod comes to none again
  moved_once : (s : Spec) (c : Trace) (e : Entry) (r p : ℕ) → Kept s c → IsProper s c e.row → pod_of c r ≡ Some p → says (moved_by e.row) r ≡ false
  unfolding pod_of
  moved_once s c e r p kept h there = false_from_ne_true (says (moved_by e.row) r) (λ k.
      let moves : moved_by e.row ≡ Some r = says-true (moved_by e.row) r k in
      let num = (Kept-push s c e kept h).requests in
      let once : AreDistinct (each_row moved_by c ++ r ∷ []) = rw (filter_map-append (λ (x : Entry). moved_by x.row) c (e ∷ []), moves) at num.moved in
      let none = pod-none r c (distinct-last (each_row moved_by c) r once) in
      absurd (let gone = rw none at there in cc))

  placed-push : (s : Spec) (r p : ℕ) (a : Bool) (c : Trace) (e : Entry) → Kept s c → IsProper s c e.row → IsPlaced r p a c → IsPlaced r p a (c ++ e ∷ [])
  placed-push s r p a c e kept h old =
      let out = moved_once s c e r p kept h old.pod in
      record {
        pod = pod_of-push c e r ∙ rw (moved_pod r e.row out, old.pod) refl;
        assigned = assigned-push c e r ∙ rw (assigned_moved r e.row out, old.assigned) (or-none a);
      }
    where
      or-none : (b : Bool) → (b || false) ≡ b
      or-none true = refl
      or-none false = refl

  placed_stays : (s : Spec) (c : Trace) (r p : ℕ) → IsMade s c → pod_of c r ≡ Some p → HoldsOnwards s c (IsPlaced r p (assigned c r))
  placed_stays s c r p made there = stays_by facts s (IsPlaced r p (assigned c r)) c (λ d e kept h old. placed-push s r p (assigned c r) d e kept h old) made (record { pod = there; assigned = refl })

  -- the pod of a request stays
  pub pod_stays : (s : Spec) (c : Trace) (r p : ℕ) → IsMade s c → pod_of c r ≡ Some p → HoldsOnwards s c (λ d. pod_of d r ≡ Some p)
  pod_stays s c r p made there = stays_less s (IsPlaced r p (assigned c r)) (λ d. pod_of d r ≡ Some p) c (λ d h. h.pod) (placed_stays s c r p made there)

  -- ---- the assignment

  assigned-list : (c es : Trace) (r : ℕ) → assigned c r ≡ true → assigned (c ++ es) r ≡ true
  assigned-list c [] r h = rw (append-nil c) h
  assigned-list c (e ∷ es) r h = rw (append_assoc c (e ∷ []) es) at (assigned-list (c ++ e ∷ []) es r (assigned-push c e r ∙ rw h refl))

  pub assigned_stays : (s : Spec) (c : Trace) (r : ℕ) → assigned c r ≡ true → HoldsOnwards s c (λ d. assigned d r ≡ true)
  assigned_stays s c r h = stays_always s (λ d. assigned d r ≡ true) c (λ es. assigned-list c es r h)

  pub proxied_stays : (s : Spec) (c : Trace) (r : ℕ) → proxied c r ≡ true → HoldsOnwards s c (λ d. ended d r ≡ false → proxied d r ≡ true)
  unfolding proxied
  proxied_stays s c r h =
      stays_less s (λ d. assigned d r ≡ true) (λ d. ended d r ≡ false → (assigned d r && not (ended d r)) ≡ true) c
      (λ d yes still. rw (yes, still) refl) (assigned_stays s c r (and_parts (assigned c r) (not (ended c r)) h).0)

  -- nor does the way that it came to its pod change
  pub way_stays : (s : Spec) (c : Trace) (r p : ℕ) → IsMade s c → pod_of c r ≡ Some p → ended c r ≡ false → HoldsOnwards s c (λ d. ended d r ≡ false → proxied d r ≡ proxied c r)
  unfolding proxied
  way_stays s c r p made there on =
      stays_less s (IsPlaced r p (assigned c r)) (λ d. ended d r ≡ false → (assigned d r && not (ended d r)) ≡ (assigned c r && not (ended c r))) c
      (λ d h still. rw (h.assigned, still, on) refl) (placed_stays s c r p made there)

  -- ---- a running request has a pod

  -- who has begun came to a pod
  begun_moved : (c : Trace) (r : ℕ) → IsNumbered c → (assigned c r ≡ true) ⊎ (has_run c r ≡ true) → contains r (each_row moved_by c) ≡ true
  unfolding assigned
  begun_moved c r num (inl a) = contains-split moved_by assigned_by directed_by moved_parts r c ∙ rw a refl
  begun_moved c r num (inr n) = contains-split moved_by assigned_by directed_by moved_parts r c ∙ or_right (contains r (each_row assigned_by c)) (contains r (each_row directed_by c)) (num.ran r n)

  pub running_pod : (c : Trace) (r : ℕ) → IsNumbered c → is_running c r ≡ true → (p : ℕ) × (pod_of c r ≡ Some p)
  unfolding pod_of
  running_pod c r num runs = by (last_of (each_row (pod_by r) c)) refl
    where
      by : (o : Option ℕ) → last_of (each_row (pod_by r) c) ≡ o → (p : ℕ) × (o ≡ Some p)
      by None e =
          let moved = begun_moved c r num (or_cases (assigned c r) (has_run c r) (running_parts c r runs).0) in
          let none = moved-none r c (last_of-none (each_row (pod_by r) c) e) in
          absurd (cc)
      by (Some p) e = (p, refl)

  -- ---- a cancel

  -- a row that takes nobody in makes nobody wait
  waits-out : (c : Trace) (e : Entry) (r : ℕ) → taken_by e.row ≡ None → contains r (waiting c) ≡ false → contains r (waiting (c ++ e ∷ [])) ≡ false
  unfolding waiting
  waits-out c e r none out = false_from_ne_true (contains r (waiting (c ++ e ∷ []))) (λ k.
      let both = filter_member (has_not_begun (c ++ e ∷ [])) r (each_row taken_by (c ++ e ∷ [])) k in
      let idle = not_begun-less facts c e r both.1 in
      let taken : contains r (each_row taken_by c) ≡ true = rw (contains-push taken_by c e r, none, or-none (contains r (each_row taken_by c))) at both.0 in
      let waits : contains r (waiting c) ≡ true = contains-filter (has_not_begun c) r (each_row taken_by c) ∙ rw (taken, idle) refl in
      absurd (cc))
    where
      or-none : (b : Bool) → (b || false) ≡ b
      or-none true = refl
      or-none false = refl

  waits-out-rows : (c es : Trace) (r : ℕ) → Each is_later_row es → contains r (waiting c) ≡ false → contains r (waiting (c ++ es)) ≡ false
  waits-out-rows c [] r h out = rw (append-nil c) out
  waits-out-rows c (e ∷ es) r h out = rw (append_assoc c (e ∷ []) es) at (waits-out-rows (c ++ e ∷ []) es r h.1 (waits-out c e r (later_plain e.row h.0).1 out))

  -- the row of a cancel leaves the request waiting no more
  cancel-row : (s : Spec) (c : Trace) (r : ℕ) → (x : Row) × (act_row s c (act.Cancel r) ≡ Some x) × ((t : ℕ) → contains r (waiting (c ++ entry t x ∷ [])) ≡ false)
  unfolding act_row
  cancel-row s c r = by (contains r (waiting c)) refl
    where
      by : (b : Bool) → contains r (waiting c) ≡ b → (x : Row) × (Some (cond b (row.Cancel r) (row.NotWaiting r)) ≡ Some x) × ((t : ℕ) → contains r (waiting (c ++ entry t x ∷ [])) ≡ false)
      by true k = (row.Cancel r, refl, λ t. rw (waiting-end c (entry t (row.Cancel r)) r refl refl refl refl) (contains-filter (λ q. not (r == q)) r (waiting c) ∙ rw (k, eq-eqb r r refl) refl))
      by false k = (row.NotWaiting r, refl, λ t. rw (waiting-quiet c (entry t (row.NotWaiting r)) (is_quiet (row.NotWaiting r) refl refl refl refl)) k)

  -- after a cancel the request doesn't wait
  pub cancelled_out : (s : Spec) (c : Trace) (e : Event) (r : ℕ) → e.act ≡ act.Cancel r → contains r (waiting (c ++ react s c e)) ≡ false
  cancelled_out s c e r is =
      let c1 = c ++ departures s c e in
      let own = cancel-row s c1 r in
      let at_act : act_row s c1 e.act ≡ Some own.0 = ap (λ (a : Act). act_row s c1 a) is ∙ own.1 in
      rw (after-parts s c e own.0 at_act) (waits-out-rows (c1 ++ entry e.time own.0 ∷ []) (later_of s c e) r (later-rows facts parts s c e) (own.2 e.time))
