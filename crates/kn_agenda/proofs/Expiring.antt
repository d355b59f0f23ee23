-- A waiting request expires exactly when its timeout is over: not before, and by the pass that is due then.
use Rattle.std.proofs.Common.{◌≡◌, ℕ, ◌+◌, ◌≤◌, Bool, true, false, ◌||◌, ◌⊎◌, inl, inr, List, [], ◌∷◌, ◌++◌, map, nat_le, nat_lt, refl, sym, ap, ◌∙◌, subst, arith}
use Rattle.std.specs.Prelude.{Option, None, Some, ◌==◌}
use Rattle.std.specs.List.{filter_map}
use Rattle.std.proofs.lemmas.Bool.{eqb-true}
use Rattle.std.proofs.lemmas.Bool.Decides.{nat_tests}
use Rattle.kn_event.specs.declared.entry.Row.{Row}
use Rattle.kn_event.specs.declared.entry.Row.TheVariants as row
use Rattle.kn_event.specs.declared.event.Act.TheVariants as act
use Rattle.kn_event.specs.declared.event.Event.{Event}
use Rattle.kn_event.specs.declared.revision.Spec.{Spec}
use Rattle.kn_event.specs.Lists.{contains}
use Rattle.kn_trace.specs.Rows.{expired_by, taken_by}
use Rattle.kn_trace.specs.Trace.{Trace, each_row, entry, first_of, has_not_begun, live_pods, waiting}
use Rattle.kn_trace.specs.Events.{act_row, act_rows, activation, before_settling, departures, due, due_by, entries_of, expiries, react, scaler_rows}
use Rattle.kn_trace.specs.Settling.{held_assignments, promotions, removals, settling}
use Rattle.kn_trace.specs.Report.{is_assign}
use Rattle.kn_record.specs.Facts.{Facts}
use Rattle.kn_record.specs.Made.{AreDistinct, IsMade}
use Rattle.kn_record.specs.Rows.{says}
use Rattle.kn_laws.specs.Facts.{PartFacts}
use Rattle.kn_laws.specs.Kinds.{is_act_row, is_remove_row, is_run_row, is_scaler_row}
use Rattle.kn_agenda.specs.declared.item.Item.{Item}
use Rattle.kn_agenda.specs.declared.item.Kind.TheVariants.{Passes}
use Rattle.kn_agenda.specs.Workload.{Workload}
use Rattle.kn_agenda.specs.Course.{expired_at}
use Rattle.kn_agenda.specs.Due.{IsNext, event_of, first_time, is_before, rank, taken_at, time_where}
use Rattle.kn_agenda.proofs.Going.{IsSaidIn, new_time, old_or_new}
use Rattle.kn_agenda.proofs.Keeping.{time-more}
use Rattle.kn_agenda.proofs.Least.{later_from}
use Rattle.kn_agenda.proofs.Passes.{time-some}
use Rattle.kn_agenda.proofs.Readies.{happened}
use Rattle.kn_agenda.proofs.Said.{none_both, said_same}
use Rattle.kn_agenda.proofs.Serving.{no_cancel_or_loss}
use Rattle.kn_agenda.proofs.Spoken.{expired_taken, said_there}

-- each that expired did so when its timeout was over
abbrev pub AreExpired : ℕ → Trace → Type 0
AreExpired timeout c = (r b t : ℕ) → taken_at c r ≡ Some b → expired_at c r ≡ Some t → t ≡ b + timeout

-- ---- rows that expire nobody

act_expires : (x : Row) → is_act_row x ≡ true → expired_by x ≡ None
act_expires (row.Expire r) h = absurd (cc)
act_expires _ h = refl

scaler_expires : (x : Row) → is_scaler_row x ≡ true → expired_by x ≡ None
scaler_expires (row.Expire r) h = absurd (cc)
scaler_expires _ h = refl

run_expires : (x : Row) → is_run_row x ≡ true → expired_by x ≡ None
run_expires (row.Expire r) h = absurd (cc)
run_expires _ h = refl

assign_expires : (x : Row) → is_assign x ≡ true → expired_by x ≡ None
assign_expires (row.Expire r) h = absurd (cc)
assign_expires _ h = refl

remove_expires : (x : Row) → is_remove_row x ≡ true → expired_by x ≡ None
remove_expires (row.Expire r) h = absurd (cc)
remove_expires _ h = refl

-- each expiry is of one who is due
each_expired : (t : ℕ) (rs : List ℕ) → each_row expired_by (map (λ r. entry t (row.Expire r)) rs) ≡ rs
each_expired t [] = refl
each_expired t (r ∷ rs) = ap (λ (xs : List ℕ). r ∷ xs) (each_expired t rs)

-- ---- who is due came so long before

-- who is due was taken in
due_taken : (timeout t : ℕ) (c : Trace) (r : ℕ) → contains r (filter_map (due_by timeout t) c) ≡ true → contains r (each_row taken_by c) ≡ true
due_taken timeout t [] r h = absurd (cc)
due_taken timeout t (e ∷ c) r h = by (nat_le (e.time + timeout) t) (taken_by e.row) refl refl (λ k. due_taken timeout t c r k)
  where
    by : (z : Bool) (o : Option ℕ) → nat_le (e.time + timeout) t ≡ z → taken_by e.row ≡ o → (contains r (filter_map (due_by timeout t) c) ≡ true → contains r (each_row taken_by c) ≡ true) → contains r (each_row taken_by (e ∷ c)) ≡ true
    by true None m k rest = rw k (rest (rw (m, k) at h))
    by false None m k rest = rw k (rest (rw m at h))
    by true (Some q) m k rest = rw k (onto (q == r) (rw (m, k) at h))
      where
        onto : (y : Bool) → (y || contains r (filter_map (due_by timeout t) c)) ≡ true → (y || contains r (each_row taken_by c)) ≡ true
        onto true g = refl
        onto false g = rest g
    by false (Some q) m k rest = rw k (onto (q == r) (rest (rw m at h)))
      where
        onto : (y : Bool) → contains r (each_row taken_by c) ≡ true → (y || contains r (each_row taken_by c)) ≡ true
        onto true g = refl
        onto false g = g

-- since requests are taken in once, it was so long ago
due_reached : (timeout t : ℕ) (c : Trace) (r b : ℕ) → AreDistinct (each_row taken_by c) → contains r (filter_map (due_by timeout t) c) ≡ true → first_time taken_by c r ≡ Some b → b + timeout ≤ t
unfolding first_time
due_reached timeout t [] r b once h is = absurd (cc)
due_reached timeout t (e ∷ c) r b once h is = by (taken_by e.row) refl (λ k m n. due_reached timeout t c r b k m n)
  where
    by : (o : Option ℕ) → taken_by e.row ≡ o
        → (AreDistinct (each_row taken_by c) → contains r (filter_map (due_by timeout t) c) ≡ true → first_of (filter_map (λ e. time_where (says (taken_by e.row) r) e) c) ≡ Some b → b + timeout ≤ t) → b + timeout ≤ t
    by None k rest = rest (rw k at once) (in_rest (nat_le (e.time + timeout) t) refl) (rw k at is)
      where
        in_rest : (z : Bool) → nat_le (e.time + timeout) t ≡ z → contains r (filter_map (due_by timeout t) c) ≡ true
        in_rest true m = rw (m, k) at h
        in_rest false m = rw m at h
    by (Some q) k rest = at (q == r) (nat_le (e.time + timeout) t) refl refl
      where
        once' : AreDistinct (q ∷ each_row taken_by c)
        once' = rw k at once

        at : (y z : Bool) → (q == r) ≡ y → nat_le (e.time + timeout) t ≡ z → b + timeout ≤ t
        at true true m n =
            let same : Some e.time ≡ Some b = rw (k, m) at is in
            let time : e.time ≡ b = cc in
            let over : e.time + timeout ≤ t = grind (arith, nat_tests) in
            omega arith
        at true false m n = absurd (
            let same : q ≡ r = eqb-true q r m in
            let later : contains r (filter_map (due_by timeout t) c) ≡ true = rw n at h in
            let taken = due_taken timeout t c r later in
            let other : contains r (each_row taken_by c) ≡ false = subst (λ (x : ℕ). contains x (each_row taken_by c) ≡ false) same once'.0 in
            cc)
        at false true m n = let h' : ((q == r) || contains r (filter_map (due_by timeout t) c)) ≡ true = rw (n, k) at h in rest once'.1 (rw m at h') (rw (k, m) at is)
        at false false m n = rest once'.1 (rw n at h) (rw (k, m) at is)

module _ (facts : Facts) (parts : PartFacts) where
  open facts use {lists.{filter_member, in_filter}, proper.{made_kept}}
  open parts use {each.{none-rows}, rows.{act-rows, activation-rows, assignments-rows, departures-same, promotions-rows, react-at, removals-rows, scaler-rows}}

  settling_expires : (s : Spec) (t : ℕ) (c : Trace) → each_row expired_by (settling s t c) ≡ []
  unfolding settling held_assignments
  settling_expires s t c =
      let ran = promotions t c (live_pods c) in
      let gave = held_assignments s t (c ++ ran) in
      none_both expired_by (ran ++ gave) (removals t ((c ++ ran) ++ gave))
      (none_both expired_by ran gave (none-rows expired_by is_run_row run_expires ran (promotions-rows t c (live_pods c))) (none-rows expired_by is_assign assign_expires gave (assignments-rows s t (c ++ ran) _)))
      (none-rows expired_by is_remove_row remove_expires (removals t ((c ++ ran) ++ gave)) (removals-rows t ((c ++ ran) ++ gave)))

  -- those who expire with an event are those who are due at its time
  expired_due : (s : Spec) (c : Trace) (e : Event) → ((p : ℕ) → e.act ≡ act.Lost p → ⊥) → each_row expired_by (react s c e) ≡ due s e.time c
  unfolding react before_settling act_rows expiries
  expired_due s c e plain =
      let gone = departures s c e in
      let own = act_row s (c ++ gone) e.act in
      let more = scaler_rows s.kind s e.time ((c ++ gone) ++ entries_of e.time own) e.act own in
      let did = entries_of e.time own ++ more in
      let active = activation e.time ((c ++ gone) ++ did) in
      let last = said_same expired_by ((gone ++ did) ++ active) (settling s e.time (c ++ ((gone ++ did) ++ active))) (settling_expires s e.time (c ++ ((gone ++ did) ++ active))) in
      let third = said_same expired_by (gone ++ did) active (none-rows expired_by is_scaler_row scaler_expires active (activation-rows e.time ((c ++ gone) ++ did))) in
      let second = said_same expired_by gone did (none_both expired_by (entries_of e.time own) more (none-rows expired_by is_act_row act_expires (entries_of e.time own) (act-rows s e.time (c ++ gone) e.act))
      (none-rows expired_by is_scaler_row scaler_expires more (scaler-rows s.kind s e.time ((c ++ gone) ++ entries_of e.time own) e.act own))) in
      let first = ap (λ (es : Trace). each_row expired_by es) (departures-same s c e plain) ∙ each_expired e.time (due s e.time c) in
      last ∙ third ∙ second ∙ first

  module _ (w : Workload) (c : Trace) (ticks : ℕ) (x : Item) (made : IsMade w.spec c) (next : IsNext w c ticks x) where
    -- who was taken in before was so at the same time after
    same_time : (r b : ℕ) → contains r (each_row taken_by c) ≡ true → taken_at (c ++ react w.spec c (event_of w x)) r ≡ Some b → taken_at c r ≡ Some b
    same_time r b taken is =
        let was = time-some taken_by c r taken in
        let same : Some was.0 ≡ Some b = sym (time-more taken_by c (react w.spec c (event_of w x)) r was.0 was.1) ∙ is in
        was.1 ∙ same

    -- who expires with the event
    on_time : (r b t : ℕ) → taken_at c r ≡ Some b → contains r (waiting c) ≡ true → contains r (filter_map (due_by w.spec.timeout_ms x.time) c) ≡ true → t ≡ x.time → t ≡ b + w.spec.timeout_ms
    on_time r b t taken waits late time =
        let low = due_reached w.spec.timeout_ms x.time c r b (made_kept w.spec c made).requests.once late taken in
        let high = later_from (b + w.spec.timeout_ms) x.time (is_before (rank Passes) (rank x.kind) (nat_lt r x.number)) (next.first (record { time = b + w.spec.timeout_ms; kind = Passes; number = r }) (waits, (b, taken, refl))) in
        omega arith

    pub expired_more : AreExpired w.spec.timeout_ms c → AreExpired w.spec.timeout_ms (c ++ react w.spec c (event_of w x))
    unfolding due waiting
    expired_more all r b t taken over = by (old_or_new expired_by c (react w.spec c (event_of w x)) r t over)
      where
        by : (expired_at c r ≡ Some t) ⊎ IsSaidIn expired_by (react w.spec c (event_of w x)) r t → t ≡ b + w.spec.timeout_ms
        by (inl old) = all r b t (same_time r b (expired_taken facts w.spec c r made (happened expired_by c r t old)) taken) old
        by (inr new) =
            let listed : contains r (each_row expired_by (react w.spec c (event_of w x))) ≡ true = said_there expired_by (react w.spec c (event_of w x)) new.before new.entry new.rest r new.split new.says in
            let is_due : contains r (due w.spec x.time c) ≡ true = subst (λ (rs : List ℕ). contains r rs ≡ true) (expired_due w.spec c (event_of w x) (λ p h. no_cancel_or_loss w x (inr (p, h)))) listed in
            let two = filter_member (has_not_begun c) r (filter_map (due_by w.spec.timeout_ms x.time) c) is_due in
            let was = due_taken w.spec.timeout_ms x.time c r two.0 in
            on_time r b t (same_time r b was taken) (in_filter (has_not_begun c) r (each_row taken_by c) was two.1) two.0 (new_time expired_by x.time (react w.spec c (event_of w x)) r t (react-at w.spec c (event_of w x)) new)
