-- The rows of a decision, by its act, and by what the autoscaler answers.
use Rattle.std.specs.Prelude.{ℕ, List, [], ◌∷◌, ◌++◌, Option, None, Some}
use Rattle.kn_event.specs.declared.entry.Entry.{Entry}
use Rattle.kn_event.specs.declared.entry.Mode.{Mode}
use Rattle.kn_event.specs.declared.entry.Phase.{Phase}
use Rattle.kn_event.specs.declared.entry.Row.{Row}
use Rattle.kn_event.specs.declared.entry.Row.TheVariants as row
use Rattle.kn_event.specs.declared.event.Act.{Act}
use Rattle.kn_event.specs.declared.revision.Spec.{Spec}
use Rattle.kn_trace.specs.Events.{scaler_rows}
use Rattle.kn_trace.specs.Scale.{scale_rows, where_true}
use Rattle.kn_trace.specs.Trace.{Trace, entry}
use Rattle.kn_scaler.specs.declared.scaler.Ruled.{Ruled}

abbrev pub phase_said : ℕ → Option Phase → List Entry
phase_said t None = []
phase_said t (Some x) = entry t (row.Phase x) ∷ []

abbrev pub mode_said : ℕ → Option Mode → List Entry
mode_said t None = []
mode_said t (Some m) = entry t (row.Mode m) ∷ []

-- the decision, and the phase and the mode where it changed them
abbrev pub said_rows : ℕ → Ruled → List Entry
said_rows t ruled = entry t (row.Decided ruled.decision) ∷ phase_said t ruled.phase ++ mode_said t ruled.mode

-- the rows of its pods, where it is applied
abbrev pub applied_rows : ℕ → Ruled → Spec → Trace → List Entry
applied_rows t ruled s c = where_true ruled.decision.applied (scale_rows s t c ruled.decision.want)

-- all rows of the decision that an act brings, with this row of its own
abbrev pub decided_rows : ℕ → Act → Option Row → Spec → Trace → List Entry
decided_rows t a own s c = scaler_rows s.kind s t c a own
