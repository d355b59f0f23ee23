-- One event more: what was the most, and what it came to over time.
use Rattle.std.proofs.Common.{◌≡◌, ℕ, ◌+◌, ◌*◌, ◌-◌, Bool, true, false, max, List, [], ◌∷◌, ◌++◌, map, refl, sym, ap, ◌∙◌, append-nil, append_assoc, arith}
use Rattle.std.specs.Prelude.{Some, unwrap_or, ◌==◌, if◌then◌else◌}
use Rattle.std.specs.List.{sum_by}
use Rattle.std.proofs.lemmas.List.Sums.{sum_by_push}
use Rattle.std.proofs.lemmas.List.{map-append}
use Rattle.kn_event.specs.declared.event.Event.{Event}
use Rattle.kn_event.specs.declared.revision.Spec.{Spec}
use Rattle.kn_event.specs.Lists.{greatest}
use Rattle.kn_trace.specs.Events.{added, opening, react, trace_of}
use Rattle.kn_trace.specs.Scale.{count_ready}
use Rattle.kn_trace.specs.Trace.{Trace, last_of}
use Rattle.kn_throttle.specs.Gauges.{count_running}
use Rattle.kn_core.specs.Gauges.{count_live}
use Rattle.kn_teller.specs.Run.{Run, later, now_of, trace}
use Rattle.kn_costs.specs.Gauges.{costs, count_held, count_none, count_pods, gauges, nothing_at, peaks, with_now, with_time}
use Rattle.kn_costs.specs.Steps.{Step, area, cold, cold_at, lasting, moments, peak, steps, steps_from}

steps_from-append : (s : Spec) (c : Trace) (t : ℕ) (es : List Event) (e : Event)
    → steps_from s c t (es ++ e ∷ []) ≡ steps_from s c t es ++ record { before = c ++ added s c es; since = unwrap_or (last_of (map (λ (x : Event). x.time) es)) t; event = e } ∷ []
unfolding steps_from added
steps_from-append s c t [] e = ap (λ (d : Trace). record { before = d; since = t; event = e } ∷ []) (sym (append-nil c))
steps_from-append s c t (x ∷ xs) e =
    ap (λ (l : List Step). record { before = c; since = t; event = x } ∷ l)
    (
    steps_from-append s (c ++ react s c x) x.time xs e
    ∙ ap (λ (d : Trace). steps_from s (c ++ react s c x) x.time xs ++ record { before = d; since = unwrap_or (last_of (map (λ (x : Event). x.time) xs)) x.time; event = e } ∷ [])
    (append_assoc c (react s c x) (added s (c ++ react s c x) xs))
    )

-- what was before the next event
abbrev next_step : Run → Event → Step
next_step r e = record { before = trace r; since = now_of r; event = e }

steps-later : (r : Run) (e : Event) → steps (later r e) ≡ steps r ++ next_step r e ∷ []
unfolding steps trace_of
steps-later r e = steps_from-append r.spec (opening r.spec r.start) r.start r.events e

steps-none : (r : Run) → r.events ≡ [] → steps r ≡ []
unfolding steps steps_from
steps-none r none = rw none refl

moments-later : (r : Run) (e : Event) → moments (later r e) ≡ moments r ++ trace (later r e) ∷ []
unfolding moments
moments-later r e =
    ap (λ (l : List Step). map (λ (x : Step). x.before) l ++ trace (later r e) ∷ []) (steps-later r e)
    ∙ ap (λ (l : List Trace). l ++ trace (later r e) ∷ []) (map-append (λ (x : Step). x.before) (steps r) (next_step r e ∷ []))

greatest-push : (ns : List ℕ) (n : ℕ) → greatest (ns ++ n ∷ []) ≡ max (greatest ns) n
greatest-push [] n = omega arith
greatest-push (m ∷ ms) n = rw (greatest-push ms n) (omega arith)

pub peak-later : (f : Trace → ℕ) (r : Run) (e : Event) → peak f (later r e) ≡ max (peak f r) (f (trace (later r e)))
unfolding peak
peak-later f r e =
    ap (λ (l : List Trace). greatest (map f l)) (moments-later r e)
    ∙ ap greatest (map-append f (moments r) (trace (later r e) ∷ []))
    ∙ greatest-push (map f (moments r)) (f (trace (later r e)))

-- before the first event
pub peak-none : (f : Trace → ℕ) (r : Run) → r.events ≡ [] → peak f r ≡ max 0 (f (trace r))
unfolding peak moments
peak-none f r none = rw (steps-none r none) (omega arith)

pub area-later : (f : Trace → ℕ) (r : Run) (e : Event) → area f (later r e) ≡ area f r + f (trace r) * (e.time - now_of r)
unfolding area
area-later f r e = ap (sum_by (lasting f)) (steps-later r e) ∙ sum_by_push (lasting f) (steps r) (next_step r e)

pub area-none : (f : Trace → ℕ) (r : Run) → r.events ≡ [] → area f r ≡ 0
unfolding area
area-none f r none = rw (steps-none r none) refl

abbrev cold_in : Run → Step → ℕ
cold_in r x = cold_at r.spec x.before x.event

pub cold_next : (r : Run) (e : Event) → cold (later r e) ≡ cold r + cold_at r.spec (trace r) e
unfolding cold
cold_next r e = ap (sum_by (cold_in r)) (steps-later r e) ∙ sum_by_push (cold_in r) (steps r) (next_step r e)

pub cold-none : (r : Run) → r.events ≡ [] → cold r ≡ 0
unfolding cold
cold-none r none = rw (steps-none r none) refl

last_of-end : {X : Type 0} (xs : List X) (x : X) → last_of (xs ++ x ∷ []) ≡ Some x
last_of-end [] x = refl
last_of-end (y ∷ ys) x = rw (last_of-end ys x) refl

pub clock-later : (r : Run) (e : Event) → now_of (later r e) ≡ e.time
clock-later r e =
    rw (map-append (λ (x : Event). x.time) r.events (e ∷ []), last_of-end (map (λ (x : Event). x.time) r.events) e.time) refl

pub clock-none : (r : Run) → r.events ≡ [] → now_of r ≡ r.start
clock-none r none = rw none refl

-- ---- the gauges of a run

pub peaks_first : (r : Run) → r.events ≡ [] → peaks r ≡ with_now (gauges (trace r)) (nothing_at r.start).peaks
unfolding peaks gauges
peaks_first r none = rw (peak-none count_pods r none, peak-none count_ready r none, peak-none count_held r none, peak-none count_live r none) refl

pub peaks_next : (r : Run) (e : Event) → peaks (later r e) ≡ with_now (gauges (trace (later r e))) (peaks r)
unfolding peaks gauges
peaks_next r e = rw (peak-later count_pods r e, peak-later count_ready r e, peak-later count_held r e, peak-later count_live r e) refl

pub costs_first : (r : Run) → r.events ≡ [] → costs r ≡ (nothing_at r.start).costs
unfolding costs
costs_first r none = rw (area-none count_none r none, area-none count_pods r none, area-none count_ready r none, area-none count_running r none) refl

none_lasts : (n ms : ℕ) → (if n == 0 then ms else 0) ≡ (if n == 0 then 1 else 0) * ms
none_lasts n ms = by (n == 0)
  where
    by : (b : Bool) → (if b then ms else 0) ≡ (if b then 1 else 0) * ms
    by true = omega arith
    by false = omega arith

pub costs_next : (r : Run) (e : Event) → costs (later r e) ≡ with_time (e.time - now_of r) (gauges (trace r)) (costs r)
unfolding costs gauges
costs_next r e =
    rw (none_lasts (count_pods (trace r)) (e.time - now_of r), area-later count_none r e, area-later count_pods r e, area-later count_ready r e, area-later count_running r e) refl
