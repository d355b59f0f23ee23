-- A run, one event more.
use Rattle.std.proofs.Common.{◌≡◌, ℕ, List, [], ◌∷◌, ◌++◌, append-nil, refl, ap, ap₂, ◌∙◌}
use Rattle.std.specs.Prelude.{Some, map, unwrap_or}
use Rattle.kn_event.specs.declared.event.Event.{Event}
use Rattle.kn_event.specs.declared.revision.Spec.{Spec}
use Rattle.kn_trace.specs.Events.{added, opening, trace_of}
use Rattle.kn_trace.specs.Trace.{last_of}
use Rattle.kn_core.specs.State.{RevisionState}
use Rattle.kn_teller.specs.Run.{Run, begun, later, now_of, trace}

pub trace_begun : (s : Spec) (start : ℕ) → trace (begun s start) ≡ opening s start
unfolding trace_of added
trace_begun s start = append-nil (opening s start)

last_time : (es : List Event) (e : Event) → last_of (map (λ (d : Event). d.time) (es ++ e ∷ [])) ≡ Some e.time
last_time [] e = refl
last_time (d ∷ es) e = ap (λ o. Some (unwrap_or o d.time)) (last_time es e)

pub now_later : (run : Run) (e : Event) → now_of (later run e) ≡ e.time
now_later run e = ap (λ o. unwrap_or o run.start) (last_time run.events e)

-- a revision that stands at a start
pub same_start : (x y : RevisionState) (s : Spec) (start : ℕ) → x ≡ y → y.spec ≡ s → y.clock ≡ start → begun x.spec x.clock ≡ begun s start
same_start x y s start is spec clock = ap₂ begun (ap (λ (z : RevisionState). z.spec) is ∙ spec) (ap (λ (z : RevisionState). z.clock) is ∙ clock)
