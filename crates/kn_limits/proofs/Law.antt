-- How many run at a pod over the rows of one event.
use Rattle.std.proofs.Common.{◌≡◌, ◌≤◌, ◌<◌, ℕ, suc, ◌+◌, max, Bool, true, false, List, [], ◌∷◌, ◌++◌, map, length, refl, ap, ◌∙◌, sym, subst, arith, None, Some, nat_lt, ◌||◌, append_assoc}
use Rattle.std.specs.Prelude.{◌==◌}
use Rattle.std.proofs.lemmas.Bool.{eqb-true}
use Rattle.std.proofs.lemmas.List.{append-nil}
use Rattle.std.proofs.lemmas.Bool.Decides.{nat_tests}
use Rattle.kn_event.specs.declared.entry.Row.{Row}
use Rattle.kn_event.specs.declared.entry.Row.TheVariants as row
use Rattle.kn_event.specs.declared.event.Event.{Event}
use Rattle.kn_event.specs.declared.revision.Spec.{Spec}
use Rattle.kn_event.specs.Lists.{contains}
use Rattle.kn_trace.specs.Events.{activation, act_row, act_rows, before_settling, departures, entries_of, react, scaler_rows}
use Rattle.kn_trace.specs.Rows.{limit_by}
use Rattle.kn_trace.specs.Settling.{assignments_of, held_assignments, promotions, removals, settling}
use Rattle.kn_trace.specs.Trace.{Trace, entry, has_free_seat, held, limit_of, live_pods, pod_of, queued_at, running_at}
use Rattle.kn_trace.specs.Report.{is_assign}
use Rattle.kn_record.specs.declared.admission.Request.{Request}
use Rattle.kn_record.specs.Admission.{Admission, admission, live_after, placed_in, queues_at, stepped}
use Rattle.kn_record.specs.Facts.{Facts}
use Rattle.kn_record.specs.Made.{Holds, IsMade, IsProper, IsRecordOf}
use Rattle.kn_record.specs.Order.{IsInOrder}
use Rattle.kn_record.specs.Views.{AreViews}
use Rattle.kn_laws.specs.Facts.{PartFacts}
use Rattle.kn_laws.specs.Kinds.{Each, is_act_row, is_departure_row, is_remove_row, is_run_row, is_scaler_row}
use Rattle.kn_limits.specs.Limits.{seats_nobody, sets_no_limit}
use Rattle.kn_limits.proofs.Counting.{false-true}
use Rattle.kn_limits.proofs.Rows.{assign-elsewhere, assign-one, row-seats_nobody, run-elsewhere, run-one, running_in}

-- what is used of the record
pub record Laws : Type 0 where
  pub next : (s : Spec) (c : Trace) (t : ℕ) (x : Row) → IsMade s c → IsProper s c x → admission (c ++ entry t x ∷ []) ≡ stepped t x (admission c)
  pub stands : (s : Spec) (c : Trace) → IsMade s c → IsRecordOf (admission c) c
  pub views : (s : Spec) (a : Admission) (c : Trace) → IsRecordOf a c → AreViews s a c
  pub order : (s : Spec) (a : Admission) (c : Trace) → IsMade s c → IsRecordOf a c → IsInOrder a
  pub made : (s : Spec) (c : Trace) (t : ℕ) (x : Row) → IsMade s c → IsProper s c x → IsMade s (c ++ entry t x ∷ [])

length-numbers : (xs : List Request) → length (map (λ (q : Request). q.number) xs) ≡ length xs
length-numbers [] = refl
length-numbers (x ∷ xs) = ap suc (length-numbers xs)

module _ (laws : Laws) (facts : Facts) (parts : PartFacts) where
  -- as many run as the record says
  count : (s : Spec) (c : Trace) (p : ℕ) → IsMade s c → length (running_at c p) ≡ length (running_in p (admission c).live)
  count s c p made = let v = laws.views s (admission c) c (laws.stands s c made) in v.count_running_at p ∙ length-numbers (running_in p (admission c).live)

  after : (s : Spec) (c : Trace) (t : ℕ) (x : Row) (p : ℕ) → IsMade s c → IsProper s c x → length (running_at (c ++ entry t x ∷ []) p) ≡ length (running_in p (live_after t x (admission c).live))
  unfolding stepped
  after s c t x p made proper = count s (c ++ entry t x ∷ []) p (laws.made s c t x made proper) ∙ ap (λ (a : Admission). length (running_in p a.live)) (laws.next s c t x made proper)

  one_of : (s : Spec) (c : Trace) (t : ℕ) (x : Row) (p n : ℕ) → IsMade s c → IsProper s c x → length (running_in p (live_after t x (admission c).live)) ≤ length (running_in p (admission c).live) + n
      → length (running_at (c ++ entry t x ∷ []) p) ≤ length (running_at c p) + n
  one_of s c t x p n made proper le = rw (after s c t x p made proper, count s c p made) le

  none_one : (s : Spec) (c : Trace) (t : ℕ) (x : Row) (p : ℕ) → IsMade s c → IsProper s c x → length (running_in p (live_after t x (admission c).live)) ≤ length (running_in p (admission c).live)
      → length (running_at (c ++ entry t x ∷ []) p) ≤ length (running_at c p)
  none_one s c t x p made proper le = rw (after s c t x p made proper, count s c p made) le

  -- rows that seat nobody
  none_more : (s : Spec) (c es : Trace) (p : ℕ) → IsMade s c → Holds (IsProper s) c es → Each seats_nobody es → length (running_at (c ++ es) p) ≤ length (running_at c p)
  none_more s c [] p made proper each = rw (append-nil c) (omega arith)
  none_more s c (e ∷ es) p made proper each =
      let one : length (running_at (c ++ e ∷ []) p) ≤ length (running_at c p) = none_one s c e.time e.row p made proper.0 (row-seats_nobody p e.time e.row (admission c).live each.0) in
      let rest : length (running_at ((c ++ e ∷ []) ++ es) p) ≤ length (running_at (c ++ e ∷ []) p) = none_more s (c ++ e ∷ []) es p (laws.made s c e.time e.row made proper.0) proper.1 each.1 in
      subst (λ (d : Trace). length (running_at d p) ≤ length (running_at c p)) (append_assoc c (e ∷ []) es) (omega (arith, one, rest))

  freed : (c : Trace) (p : ℕ) → has_free_seat c p ≡ true → 1 ≤ limit_of c p → length (running_at c p) < limit_of c p
  unfolding has_free_seat
  freed c p free some = by (limit_of c p) (length (running_at c p)) some free
    where
      by : (limit runs : ℕ) → 1 ≤ limit → ((limit == 0) || nat_lt runs limit) ≡ true → runs < limit
      by limit runs some h = grind (arith, nat_tests, some, h)

  -- who is queued here has this pod
  queued_pod : (s : Spec) (c : Trace) (p r : ℕ) → IsMade s c → contains r (queued_at c p) ≡ true → pod_of c r ≡ Some p
  queued_pod s c p r made h = let st = laws.stands s c made in facts.members.pod_is c p r st.requests (facts.members.queued_member c p r h).0

  seat_run : (s : Spec) (c : Trace) (t r p : ℕ) → IsMade s c → IsProper s c (row.Run r) → 1 ≤ limit_of c p → (b : Bool) → contains r (placed_in (queues_at p) (admission c).live) ≡ b
      → length (running_at (c ++ entry t (row.Run r) ∷ []) p) ≤ max (length (running_at c p)) (limit_of c p)
  seat_run s c t r p made proper some false out = let le = none_one s c t (row.Run r) p made proper (run-elsewhere p t r (admission c).live out) in omega (arith, le)
  seat_run s c t r p made proper some true h =
      let st = laws.stands s c made in
      let v = laws.views s (admission c) c st in
      let o = laws.order s (admission c) c made st in
      let here : contains r (queued_at c p) ≡ true = ap (λ xs. contains r xs) (v.queued p) ∙ h in
      let there : contains r (queued_at c proper.0) ≡ true = facts.lists.first_member r (queued_at c proper.0) proper.1.first in
      let same : p ≡ proper.0 = some_same p proper.0 (sym (queued_pod s c p r made here) ∙ queued_pod s c proper.0 r made there) in
      let free : has_free_seat c p ≡ true = subst (λ q. has_free_seat c q ≡ true) (sym same) proper.1.free in
      let le = one_of s c t (row.Run r) p 1 made proper (run-one p t r (admission c).live o.live) in
      let f = freed c p free some in
      omega (arith, le, f)
    where
      some_same : (a b : ℕ) → Some a ≡ Some b → a ≡ b
      some_same a b e = cc

  seat_assign : (s : Spec) (c : Trace) (t r q p : ℕ) → IsMade s c → IsProper s c (row.Assign r q) → 1 ≤ limit_of c p → (b : Bool) → (q == p) ≡ b
      → length (running_at (c ++ entry t (row.Assign r q) ∷ []) p) ≤ max (length (running_at c p)) (limit_of c p)
  seat_assign s c t r q p made proper some false out = let le = none_one s c t (row.Assign r q) p made proper (assign-elsewhere p t r q (admission c).live out) in omega (arith, le)
  seat_assign s c t r q p made proper some true h =
      let o = laws.order s (admission c) c made (laws.stands s c made) in
      let free : has_free_seat c p ≡ true = subst (λ z. has_free_seat c z ≡ true) (eqb-true q p h) proper.free in
      let le = one_of s c t (row.Assign r q) p 1 made proper (assign-one p t r q (admission c).live o.live) in
      let f = freed c p free some in
      omega (arith, le, f)

  -- one row
  seat_one : (s : Spec) (c : Trace) (t : ℕ) (x : Row) (p : ℕ) → IsMade s c → IsProper s c x → 1 ≤ limit_of c p
      → length (running_at (c ++ entry t x ∷ []) p) ≤ max (length (running_at c p)) (limit_of c p)
  seat_one s c t (row.Assign r q) p made proper some = seat_assign s c t r q p made proper some (q == p) refl
  seat_one s c t (row.Run r) p made proper some = seat_run s c t r p made proper some (contains r (placed_in (queues_at p) (admission c).live)) refl
  seat_one s c t x p made proper some = let le = none_one s c t x p made proper (row-seats_nobody p t x (admission c).live refl) in omega (arith, le)

  quiet : (q : ℕ) (x : Row) → sets_no_limit x ≡ true → limit_by q x ≡ None
  quiet q (row.Create p n) e = absurd (false-true e)
  quiet q (row.Limit p n) e = absurd (false-true e)
  quiet q _ e = refl

  -- rows that set no limit
  pub limit_all : (c es : Trace) (p : ℕ) → Each sets_no_limit es → limit_of (c ++ es) p ≡ limit_of c p
  limit_all c [] p each = ap (λ (d : Trace). limit_of d p) (append-nil c)
  limit_all c (e ∷ es) p each = ap (λ (d : Trace). limit_of d p) (sym (append_assoc c (e ∷ []) es)) ∙ (limit_all (c ++ e ∷ []) es p each.1 ∙ facts.views.limit-quiet c e p (quiet p e.row each.0))

  seat_all : (s : Spec) (c es : Trace) (p : ℕ) → IsMade s c → Holds (IsProper s) c es → Each sets_no_limit es → 1 ≤ limit_of c p
      → length (running_at (c ++ es) p) ≤ max (length (running_at c p)) (limit_of c p)
  seat_all s c [] p made proper each some = rw (append-nil c) (omega arith)
  seat_all s c (e ∷ es) p made proper each some =
      let one : length (running_at (c ++ e ∷ []) p) ≤ max (length (running_at c p)) (limit_of c p) = seat_one s c e.time e.row p made proper.0 some in
      let same : limit_of (c ++ e ∷ []) p ≡ limit_of c p = facts.views.limit-quiet c e p (quiet p e.row each.0) in
      let rest : length (running_at ((c ++ e ∷ []) ++ es) p) ≤ max (length (running_at (c ++ e ∷ []) p)) (limit_of (c ++ e ∷ []) p) =
      seat_all s (c ++ e ∷ []) es p (laws.made s c e.time e.row made proper.0) proper.1 each.1 (rw same some) in
      subst (λ (d : Trace). length (running_at d p) ≤ max (length (running_at c p)) (limit_of c p)) (append_assoc c (e ∷ []) es) (omega (arith, one, same, rest))

  -- ---- the parts of an event

  departure : (x : Row) → is_departure_row x ≡ true → seats_nobody x ≡ true
  departure (row.Assign r p) e = e
  departure (row.Run r) e = e
  departure _ e = refl

  acting : (x : Row) → is_act_row x ≡ true → seats_nobody x ≡ true
  acting (row.Assign r p) e = e
  acting (row.Run r) e = e
  acting _ e = refl

  scaling : (x : Row) → is_scaler_row x ≡ true → seats_nobody x ≡ true
  scaling (row.Assign r p) e = e
  scaling (row.Run r) e = e
  scaling _ e = refl

  before_each : (s : Spec) (c : Trace) (e : Event) → Each seats_nobody (before_settling s c e)
  unfolding before_settling act_rows
  before_each s c e =
      let gone = departures s c e in
      let own = entries_of e.time (act_row s (c ++ gone) e.act) in
      let scaled = scaler_rows s.kind s e.time ((c ++ gone) ++ own) e.act (act_row s (c ++ gone) e.act) in
      let a = parts.each.Each-weaken is_departure_row seats_nobody departure gone (parts.rows.departures-rows s c e) in
      let b = parts.each.Each-weaken is_act_row seats_nobody acting own (parts.rows.act-rows s e.time (c ++ gone) e.act) in
      let d = parts.each.Each-weaken is_scaler_row seats_nobody scaling scaled (parts.rows.scaler-rows s.kind s e.time ((c ++ gone) ++ own) e.act (act_row s (c ++ gone) e.act)) in
      let did = own ++ scaled in
      let f = parts.each.Each-weaken is_scaler_row seats_nobody scaling (activation e.time ((c ++ gone) ++ did)) (parts.rows.activation-rows e.time ((c ++ gone) ++ did)) in
      parts.each.Each-append seats_nobody (gone ++ did) (activation e.time ((c ++ gone) ++ did)) (parts.each.Each-append seats_nobody gone did a (parts.each.Each-append seats_nobody own scaled b d)) f

  running : (x : Row) → is_run_row x ≡ true → sets_no_limit x ≡ true
  running (row.Create p n) e = e
  running (row.Limit p n) e = e
  running _ e = refl

  assigning : (x : Row) → is_assign x ≡ true → sets_no_limit x ≡ true
  assigning (row.Create p n) e = e
  assigning (row.Limit p n) e = e
  assigning _ e = refl

  removing : (x : Row) → is_remove_row x ≡ true → sets_no_limit x ≡ true
  removing (row.Create p n) e = e
  removing (row.Limit p n) e = e
  removing _ e = refl

  settling_each : (s : Spec) (t : ℕ) (c : Trace) → Each sets_no_limit (settling s t c)
  unfolding settling held_assignments
  settling_each s t c =
      let ran = promotions t c (live_pods c) in
      let gave = assignments_of s t (c ++ ran) (held (c ++ ran)) in
      let left = removals t ((c ++ ran) ++ gave) in
      let a = parts.each.Each-weaken is_run_row sets_no_limit running ran (parts.rows.promotions-rows t c (live_pods c)) in
      let b = parts.each.Each-weaken is_assign sets_no_limit assigning gave (parts.rows.assignments-rows s t (c ++ ran) (held (c ++ ran))) in
      let d = parts.each.Each-weaken is_remove_row sets_no_limit removing left (parts.rows.removals-rows t ((c ++ ran) ++ gave)) in
      parts.each.Each-append sets_no_limit (ran ++ gave) left (parts.each.Each-append sets_no_limit ran gave a b) d

  pub seats : (s : Spec) (c : Trace) (e : Event) (p : ℕ) → IsMade s c → 1 ≤ limit_of (c ++ react s c e) p → length (running_at (c ++ react s c e) p) ≤ max (length (running_at c p)) (limit_of (c ++ react s c e) p)
  unfolding react
  seats s c e p made some =
      let first = before_settling s c e in
      let d = c ++ first in
      let last = settling s e.time d in
      let kept = facts.proper.made_kept s c made in
      let made' : IsMade s d = facts.proper.made_more s c first made (facts.proper.before-holds s c e kept) in
      let start : length (running_at d p) ≤ length (running_at c p) = none_more s c first p made (facts.proper.before-holds s c e kept) (before_each s c e) in
      let same : limit_of (d ++ last) p ≡ limit_of d p = limit_all d last p (settling_each s e.time d) in
      let whole : c ++ (first ++ last) ≡ d ++ last = sym (append_assoc c first last) in
      let some' : 1 ≤ limit_of d p = rw (sym same, sym whole) some in
      let end : length (running_at (d ++ last) p) ≤ max (length (running_at d p)) (limit_of d p) = seat_all s d last p made' (facts.proper.settling-holds s e.time d (facts.proper.made_kept s d made')) (settling_each s e.time d) some' in
      subst (λ (z : Trace). length (running_at z p) ≤ max (length (running_at c p)) (limit_of z p)) (sym whole) (omega (arith, start, same, end))
