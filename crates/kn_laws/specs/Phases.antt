-- The wanted scale and the phase of a scaled revision.
use Rattle.std.specs.Prelude.{◌≡◌, ◌==◌}
use Rattle.kn_event.specs.declared.entry.Phase.TheVariants as phase
use Rattle.kn_event.specs.declared.revision.Kind.TheVariants as kind
use Rattle.kn_event.specs.declared.revision.Spec.{Spec}
use Rattle.kn_trace.specs.Trace.{Trace}
use Rattle.kn_trace.specs.Scale.{is_in_phase, phase_of, wanted}

-- no pod is wanted exactly where the phase is inactive
abbrev pub WantsByPhase : Spec → Trace → Type 0
WantsByPhase s c = s.kind ≡ kind.Kpa → (wanted s c == 0) ≡ is_in_phase phase.Inactive (phase_of c)
