-- What holds of every trace that some events made in order.
use Rattle.std.proofs.Common.{◌≡◌, ℕ, ◌+◌, ◌-◌, ◌≤◌, Bool, true, false, not, ◌&&◌, List, [], ◌∷◌, ◌++◌, length, map, take, refl, sym, ap, ◌∙◌, arith, append-nil, length-append}
use Rattle.std.specs.Prelude.{Option, None, Some, ◌==◌}
use Rattle.std.specs.List.{filter, range_with_len}
use Rattle.std.proofs.Math.Logic.{∥∥₁_map}
use Rattle.kn_event.specs.declared.entry.Row.{Row}
use Rattle.kn_event.specs.declared.entry.Row.TheVariants as row
use Rattle.kn_event.specs.declared.entry.Phase.TheVariants as phase
use Rattle.kn_event.specs.declared.event.Act.{Act}
use Rattle.kn_event.specs.declared.event.Act.TheVariants as act
use Rattle.kn_event.specs.declared.event.Event.{Event}
use Rattle.kn_event.specs.declared.revision.Kind.{Kind}
use Rattle.kn_event.specs.declared.revision.Kind.TheVariants as kind
use Rattle.kn_event.specs.declared.revision.Spec.{Spec}
use Rattle.kn_event.specs.Lists.{contains}
use Rattle.kn_scaling.specs.Decide.{Ruling}
use Rattle.kn_scaling.specs.Burst.{is_same_mode}
use Rattle.kn_trace.specs.Trace.{Trace, at_pod, created, draining, entry, has_free_seat, held, is_empty, live_pods, queued_at, ready_pods}
use Rattle.kn_trace.specs.Scale.{creations, decision_at, decision_rows, drain_order, is_in_phase, mode_of, phase_of, scale_rows, tick_rows, tick_rows_of, wake_decision_at, wake_rows, wanted, where_true}
use Rattle.kn_trace.specs.Settling.{assignments_of, held_assignments, next_choice, promotions, promotions_at, removals, settling, while_chosen, while_free}
use Rattle.kn_trace.specs.Events.{act_row, act_rows, activation, added, before_settling, departures, due, entries_of, expiries, losses, losses_at, lost_with, opening, opening_of, react, scaler_rows, trace_of, wake_where}
use Rattle.kn_record.specs.Order.{AreTimesInOrder}
use Rattle.kn_laws.specs.History.{AreInOrder, History, IsMadeBy}
use Rattle.kn_laws.specs.Kinds.{EachAt}
use Rattle.kn_laws.proofs.Added.{trace_of-append}

-- ---- all entries of an event have its time

at-append : (t : ℕ) (xs ys : Trace) → EachAt t xs → EachAt t ys → EachAt t (xs ++ ys)
at-append t [] ys h k = k
at-append t (e ∷ xs) ys h k = (h.0, at-append t xs ys h.1 k)

at-map : (t : ℕ) (f : ℕ → Row) (xs : List ℕ) → EachAt t (map (λ x. entry t (f x)) xs)
at-map t f [] = tt
at-map t f (x ∷ xs) = (refl, at-map t f xs)

at-where : (t : ℕ) (b : Bool) (es : Trace) → EachAt t es → EachAt t (where_true b es)
at-where t false es h = tt
at-where t true es h = h

departures-at : (s : Spec) (c : Trace) (e : Event) → EachAt e.time (departures s c e)
unfolding departures expiries losses
departures-at s c e = at-append e.time (expiries s e.time c) _ (at-map e.time row.Expire (due s e.time c)) (by e.act)
  where
    c1 : Trace
    c1 = c ++ expiries s e.time c

    lost : (b : Bool) (p : ℕ) → EachAt e.time (losses_at b e.time c1 p)
    lost true p = at-map e.time row.LostRequest (lost_with c1 p)
    lost false p = tt

    by : (a : Act) → EachAt e.time (losses e.time c1 a)
    by (act.Lost p) = lost (contains p (live_pods c1)) p
    by a = tt

decision-at : (s : Spec) (t : ℕ) (c : Trace) (made : Ruling) → EachAt t (decision_rows s t c made)
unfolding decision_rows scale_rows
decision-at s t c made =
    let n = length (drain_order c) in
    let phase = where_true (not (is_in_phase made.phase (phase_of c))) (entry t (row.Phase made.phase) ∷ []) in
    let mode = where_true (not (is_same_mode made.decision.mode (mode_of c))) (entry t (row.Mode made.decision.mode) ∷ []) in
    let new = creations s t (created c) (made.decision.want - n) in
    let old = map (λ p. entry t (row.Drain p)) (take (n - made.decision.want) (drain_order c)) in
    let one : EachAt t (entry t (row.Phase made.phase) ∷ []) = (refl, tt) in
    let two : EachAt t (entry t (row.Mode made.decision.mode) ∷ []) = (refl, tt) in (
      refl,
      at-append t (phase ++ mode) (where_true made.decision.applied (new ++ old))
          (at-append t phase mode (at-where t (not (is_in_phase made.phase (phase_of c))) _ one) (at-where t (not (is_same_mode made.decision.mode (mode_of c))) _ two))
          (at-where t made.decision.applied (new ++ old) (at-append t new old (at-map t (λ p. row.Create p s.cc) (range_with_len (created c) (made.decision.want - n))) (at-map t row.Drain (take (n - made.decision.want) (drain_order c))))),
    )

scaler-at : (k : Kind) (s : Spec) (t : ℕ) (c : Trace) (a : Act) (did : Option Row) → EachAt t (scaler_rows k s t c a did)
unfolding tick_rows wake_rows
scaler-at kind.Kpa s t c act.Tick did = by (decision_at s c t)
  where
    by : (o : Option Ruling) → EachAt t (tick_rows_of s t c o)
    by None = (refl, tt)
    by (Some made) = decision-at s t c made
scaler-at kind.Kpa s t c (act.Arrive tag) (Some (row.Admit r g)) = by (wanted s c == 0)
  where
    by : (b : Bool) → EachAt t (wake_where b s t c)
    by false = tt
    by true = decision-at s t c (wake_decision_at s c t)
scaler-at k s t c a did = tt

own-at : (t : ℕ) (o : Option Row) → EachAt t (entries_of t o)
own-at t None = tt
own-at t (Some x) = (refl, tt)

promotions_at-at : (t : ℕ) (c : Trace) (p : ℕ) (rs : List ℕ) → EachAt t (promotions_at t c p rs)
unfolding promotions_at
promotions_at-at t c p [] = tt
promotions_at-at t c p (r ∷ rs) = by (has_free_seat c p) (promotions_at-at t (c ++ entry t (row.Run r) ∷ []) p rs)
  where
    by : (b : Bool) → EachAt t (promotions_at t (c ++ entry t (row.Run r) ∷ []) p rs) → EachAt t (while_free b (entry t (row.Run r)) (λ x. promotions_at t (c ++ x ∷ []) p rs))
    by false rest = tt
    by true rest = (refl, rest)

promotions-at : (t : ℕ) (c : Trace) (ps : List ℕ) → EachAt t (promotions t c ps)
unfolding promotions
promotions-at t c [] = tt
promotions-at t c (p ∷ ps) = at-append t (promotions_at t c p (queued_at c p)) _ (promotions_at-at t c p (queued_at c p)) (promotions-at t (c ++ promotions_at t c p (queued_at c p)) ps)

assignments-at : (s : Spec) (t : ℕ) (c : Trace) (rs : List ℕ) → EachAt t (assignments_of s t c rs)
unfolding assignments_of
assignments-at s t c [] = tt
assignments-at s t c (r ∷ rs) = by (next_choice s c) (λ p. assignments-at s t (c ++ entry t (row.Assign r p) ∷ []) rs)
  where
    by : (o : Option ℕ) → ((p : ℕ) → EachAt t (assignments_of s t (c ++ entry t (row.Assign r p) ∷ []) rs)) → EachAt t (while_chosen o (λ p. entry t (row.Assign r p)) (λ x. assignments_of s t (c ++ x ∷ []) rs))
    by None rest = tt
    by (Some p) rest = (refl, rest p)

settling-at : (s : Spec) (t : ℕ) (c : Trace) → EachAt t (settling s t c)
unfolding settling held_assignments removals
settling-at s t c =
    let ran = promotions t c (live_pods c) in
    let gave = assignments_of s t (c ++ ran) (held (c ++ ran)) in
    at-append t (ran ++ gave) (map (λ p. entry t (row.Remove p)) (filter (λ p. is_empty (at_pod ((c ++ ran) ++ gave) p)) (draining ((c ++ ran) ++ gave)))) (at-append t ran gave (promotions-at t c (live_pods c)) (assignments-at s t (c ++ ran) (held (c ++ ran)))) (at-map t row.Remove (filter (λ p. is_empty (at_pod ((c ++ ran) ++ gave) p)) (draining ((c ++ ran) ++ gave))))

activation-at : (t : ℕ) (c : Trace) → EachAt t (activation t c)
unfolding activation
activation-at t c =
    let one : EachAt t (entry t (row.Phase phase.Active) ∷ []) = (refl, tt) in
    at-where t (is_in_phase phase.Activating (phase_of c) && not (is_empty (ready_pods c))) (entry t (row.Phase phase.Active) ∷ []) one

-- each entry that an event adds has the event's time
pub react-at : (s : Spec) (c : Trace) (e : Event) → EachAt e.time (react s c e)
unfolding react before_settling act_rows
react-at s c e =
    let t = e.time in
    let gone = departures s c e in
    let c1 = c ++ gone in
    let own = entries_of t (act_row s c1 e.act) in
    let more = scaler_rows s.kind s t (c1 ++ own) e.act (act_row s c1 e.act) in
    let active = activation t (c1 ++ (own ++ more)) in
    let last = settling s t (c ++ ((gone ++ (own ++ more)) ++ active)) in
    at-append t ((gone ++ (own ++ more)) ++ active) last
    (at-append t (gone ++ (own ++ more)) active
    (at-append t gone (own ++ more) (departures-at s c e) (at-append t own more (own-at t (act_row s c1 e.act)) (scaler-at s.kind s t (c1 ++ own) e.act (act_row s c1 e.act))))
    (activation-at t (c1 ++ (own ++ more))))
    (settling-at s t (c ++ ((gone ++ (own ++ more)) ++ active)))

-- ---- so the times of a trace never fall

times-same : (from t : ℕ) (es : Trace) → from ≤ t → EachAt t es → AreTimesInOrder from es t
times-same from t [] le h = le
times-same from t (e ∷ es) le h = (rw h.0 le, times-same e.time t es (rw h.0 (omega arith)) h.1)

times-append : (from mid to : ℕ) (c d : Trace) → AreTimesInOrder from c mid → AreTimesInOrder mid d to → AreTimesInOrder from (c ++ d) to
times-append from mid to [] d h k = first d k
  where
    first : (d : Trace) → AreTimesInOrder mid d to → AreTimesInOrder from d to
    first [] k = omega arith
    first (e ∷ d) k = let after = k.0 in (omega arith, k.1)
times-append from mid to (e ∷ c) d h k = (h.0, times-append e.time mid to c d h.1 k)

opening-at : (s : Spec) (start : ℕ) → EachAt start (opening s start)
unfolding opening
opening-at s start = by s.kind
  where
    by : (k : Kind) → EachAt start (opening_of k s start)
    by (kind.Fixed n) = at-map start (λ p. row.Create p s.cc) _
    by kind.Kpa = (refl, at-map start (λ p. row.Create p s.cc) _)

times-added : (s : Spec) (from to : ℕ) (c : Trace) (es : List Event) → AreInOrder from es to → AreTimesInOrder from (added s c es) to
unfolding added
times-added s from to c [] h = h
times-added s from to c (e ∷ es) h = times-append from e.time to (react s c e) _ (times-same from e.time (react s c e) h.0 (react-at s c e)) (times-added s e.time to (c ++ react s c e) es h.1)

pub times_of_trace : (s : Spec) (start to : ℕ) (es : List Event) → AreInOrder start es to → AreTimesInOrder start (trace_of s start es) to
unfolding trace_of
times_of_trace s start to es h = times-append start start to (opening s start) _ (times-same start start (opening s start) (omega arith) (opening-at s start)) (times-added s start to (opening s start) es h)

-- ---- a history, by one more event

order-push : (from clock : ℕ) (es : List Event) (e : Event) → AreInOrder from es clock → clock ≤ e.time → AreInOrder from (es ++ e ∷ []) e.time
order-push from clock [] e h le = (omega arith, omega arith)
order-push from clock (x ∷ es) e h le = (h.0, order-push x.time clock es e h.1 le)

one-more : (s : Spec) (start : ℕ) (es : List Event) (e : Event) → trace_of s start (es ++ e ∷ []) ≡ trace_of s start es ++ react s (trace_of s start es) e
unfolding added
one-more s start es e = trace_of-append s start es (e ∷ []) ∙ ap (λ (l : Trace). trace_of s start es ++ l) (append-nil (react s (trace_of s start es) e))

-- the opening was made by no event
pub history_opening : (s : Spec) (start : ℕ) → IsMadeBy s start start 0 (opening s start)
unfolding trace_of added
history_opening s start = ∣ record { events = []; order = omega arith; many = refl; trace = sym (append-nil (opening s start)) } ∣₁

-- and an event at the clock or later makes the longer trace
pub history_step : (s : Spec) (start clock count : ℕ) (c : Trace) (e : Event) → IsMadeBy s start clock count c → clock ≤ e.time → IsMadeBy s start e.time (count + 1) (c ++ react s c e)
history_step s start clock count c e made le = ∥∥₁_map made one
  where
    one : History s start clock count c → History s start e.time (count + 1) (c ++ react s c e)
    one h = let many = h.many in record {
      events = h.events ++ e ∷ [];
      order = order-push start clock h.events e h.order le;
      many = length-append h.events (e ∷ []) ∙ omega arith;
      trace = rw h.trace (sym (one-more s start h.events e));
    }
