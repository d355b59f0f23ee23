-- What a gauge comes to over time is the sum of the spans that it counts.
use Rattle.std.proofs.Common.{◌≡◌, ℕ, ◌+◌, ◌*◌, ◌-◌, ◌≤◌, List, [], ◌∷◌, ◌++◌, refl, sym, ap, ◌∙◌, subst, arith, append-nil, append_assoc}
use Rattle.std.specs.Prelude.{Option}
use Rattle.std.specs.List.{All}
use Rattle.std.proofs.lemmas.List.Elements.{All-append, All-cons, All-nil, All-push, All-weaker}
use Rattle.kn_event.specs.declared.entry.Entry.{Entry}
use Rattle.kn_event.specs.declared.entry.Row.{Row}
use Rattle.kn_event.specs.declared.event.Event.{Event}
use Rattle.kn_event.specs.declared.revision.Spec.{Spec}
use Rattle.kn_trace.specs.Events.{added, react, trace_of}
use Rattle.kn_trace.specs.Trace.{Trace}
use Rattle.kn_record.specs.Facts.{Facts}
use Rattle.kn_record.specs.Made.{IsMade}
use Rattle.kn_record.specs.Order.{AreTimesInOrder}
use Rattle.kn_laws.specs.History.{AreInOrder, GoesOn}
use Rattle.kn_laws.specs.Kinds.{EachAt}
use Rattle.kn_teller.specs.Run.{later, now_of}
use Rattle.kn_costs.specs.Steps.{area}
use Rattle.kn_costs.specs.Sums.{spans}
use Rattle.kn_costs.proofs.Bounds.{run_of}
use Rattle.kn_costs.proofs.Once.{IsFresh}
use Rattle.kn_costs.proofs.Open.{count_open}
use Rattle.kn_costs.proofs.Spans.{spans-later, spans-row}
use Rattle.kn_costs.proofs.Timing.{area-later, area-none, clock-later}

-- rows of one time
all_at : (t : ℕ) (c : Trace) → EachAt t c → All (λ (x : Entry). x.time ≤ t) c
all_at t [] h = All-nil (λ (x : Entry). x.time ≤ t)
all_at t (x ∷ c) h = let here = h.0 in All-cons (λ (y : Entry). y.time ≤ t) x c (omega arith) (all_at t c h.1)

times_end : (from to : ℕ) (c : Trace) → AreTimesInOrder from c to → from ≤ to
times_end from to [] h = h
times_end from to (x ∷ c) h = let low = h.0 in let rest = times_end x.time to c h.1 in omega arith

-- between one time and the same
at_once : (t : ℕ) (c : Trace) → AreTimesInOrder t c t → EachAt t c
at_once t [] h = tt
at_once t (x ∷ c) h =
    let low = h.0 in
    let high = times_end x.time t c h.1 in
    let same : x.time ≡ t = omega arith in
    (same, at_once t c (subst (λ (n : ℕ). AreTimesInOrder n c t) same h.1))

module _ (facts : Facts) (at : (s : Spec) (c : Trace) (e : Event) → EachAt e.time (react s c e)) (append : (s : Spec) (start : ℕ) (es more : List Event) → GoesOn s start es more) where
  open facts use {proper.{made_at, made_trace}}

  pub trace_next : (s : Spec) (start : ℕ) (es : List Event) (e : Event) → trace_of s start (es ++ e ∷ []) ≡ trace_of s start es ++ react s (trace_of s start es) e
  unfolding added
  trace_next s start es e = append s start es (e ∷ []) ∙ ap (λ (l : Trace). trace_of s start es ++ l) (append-nil (react s (trace_of s start es) e))

  module _ (begins ends : Row → Option ℕ) (fresh : IsFresh facts begins) (s : Spec) where
    -- rows of a time change no span up to it
    rows : (t : ℕ) (all c log : Trace) → IsMade s all → all ≡ c ++ log → All (λ (x : Entry). x.time ≤ t) c → EachAt t log → spans begins ends t all ≡ spans begins ends t c
    rows t all c [] made is past at_t = ap (spans begins ends t) (is ∙ append-nil c)
    rows t all c (x ∷ log) made is past at_t =
        let here = made_at s all c x log made is in
        let time : x.time ≡ t = at_t.0 in
        let next : All (λ (y : Entry). y.time ≤ t) (c ++ x ∷ []) = All-push (λ (y : Entry). y.time ≤ t) c x past (omega arith) in
        rows t all (c ++ x ∷ []) log made (is ∙ sym (append_assoc c (x ∷ []) log)) next at_t.1
        ∙ subst (λ (u : ℕ). spans begins ends u (c ++ x ∷ []) ≡ spans begins ends u c) time
        (spans-row begins ends c x (subst (λ (u : ℕ). All (λ (y : Entry). y.time ≤ u) c) (sym time) past) (λ n h. fresh s c x.row n here.0 here.1 h))

    module _ (f : Trace → ℕ) (start : ℕ) (counts : (es : List Event) → f (trace_of s start es) ≡ count_open begins ends (trace_of s start es)) where
      record IsSummed (es : List Event) : Type 0 where
        sum : area f (run_of s start es) ≡ spans begins ends (now_of (run_of s start es)) (trace_of s start es)
        past : All (λ (x : Entry). x.time ≤ now_of (run_of s start es)) (trace_of s start es)

      next : (es : List Event) (e : Event) → now_of (run_of s start es) ≤ e.time → IsSummed es → IsSummed (es ++ e ∷ [])
      next es e order h =
          let r = run_of s start es in
          let c = trace_of s start es in
          let clock : now_of (later r e) ≡ e.time = clock-later r e in
          let is = trace_next s start es e in
          let by_then : All (λ (x : Entry). x.time ≤ e.time) c = All-weaker (λ (x : Entry). x.time ≤ now_of r) (λ (x : Entry). x.time ≤ e.time) (λ x l. omega arith) c h.past in
          record {
            sum =
                area-later f r e
                ∙ ap (λ (n : ℕ). n + f c * (e.time - now_of r)) h.sum
                ∙ ap (λ (n : ℕ). spans begins ends (now_of r) c + n * (e.time - now_of r)) (counts es)
                ∙ sym (spans-later begins ends c (now_of r) e.time h.past order)
                ∙ sym (rows e.time (trace_of s start (es ++ e ∷ [])) c (react s c e) (made_trace s start (es ++ e ∷ [])) is by_then (at s c e))
                ∙ ap (λ (t : ℕ). spans begins ends t (trace_of s start (es ++ e ∷ []))) (sym clock);
            past =
                subst (λ (t : ℕ). All (λ (x : Entry). x.time ≤ t) (trace_of s start (es ++ e ∷ []))) (sym clock)
                (subst (All (λ (x : Entry). x.time ≤ e.time)) (sym is) (All-append (λ (x : Entry). x.time ≤ e.time) c (react s c e) by_then (all_at e.time (react s c e) (at s c e))));
          }

      first : AreTimesInOrder start (trace_of s start []) start → IsSummed []
      unfolding spans
      first times =
          let at_start = at_once start (trace_of s start []) times in
          record {
            sum = area-none f (run_of s start []) refl ∙ sym (rows start (trace_of s start []) [] (trace_of s start []) (made_trace s start []) refl (All-nil (λ (x : Entry). x.time ≤ start)) at_start);
            past = all_at start (trace_of s start []) at_start;
          }

      walk : (done es : List Event) (to : ℕ) → AreInOrder (now_of (run_of s start done)) es to → IsSummed done → IsSummed (done ++ es)
      walk done [] to order h = subst IsSummed (sym (append-nil done)) h
      walk done (e ∷ es) to order h =
          subst IsSummed (append_assoc done (e ∷ []) es)
          (walk (done ++ e ∷ []) es to (subst (λ (t : ℕ). AreInOrder t es to) (sym (clock-later (run_of s start done) e)) order.1) (next done e order.0 h))

      pub summed : (es : List Event) (to : ℕ) → AreTimesInOrder start (trace_of s start []) start → AreInOrder start es to
          → area f (run_of s start es) ≡ spans begins ends (now_of (run_of s start es)) (trace_of s start es)
      summed es to times order = (walk [] es to order (first times)).sum
