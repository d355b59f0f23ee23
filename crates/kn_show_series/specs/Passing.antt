-- What a call that goes on to the step of a later time adds behind what waits, of whatever run precedes that time.
use Rattle.std.specs.Prelude.{◌++◌, ℕ, List, OnErr, OnOk, Result}
use Rattle.kn_io.specs.Prefix.{AppendsPrefix}
use Rattle.kn_io.specs.declared.traits.Sink.{Ghosts}
use Rattle.kn_report.specs.Waiting.{Adds}
use Rattle.kn_teller.specs.Run.{Run}
use Rattle.kn_show_series.specs.declared.current.OpenStep.{OpenStep}
use Rattle.kn_show_series.specs.Series.{over_lines}
use Rattle.kn_show_series.specs.State.{IsStepOf, Precedes}
use Rattle.kn_show_series.specs.Steps.{step_of}

-- the lines of the steps that are over then came behind what waited
abbrev pub AddsOverSteps : {X T E : Type 0} → Ghosts X → X → X → List ℕ → List ℕ → ℕ → ℕ → OpenStep → Result T E → Type 0
AddsOverSteps own before now old new step time x result =
    (r : Run) → Precedes step r time x → OnOk result (Adds (own.held before) (own.held now) old new (over_lines step r time))

-- .. or writing failed amid both
abbrev pub CutsOverSteps : {X T E : Type 0} → Ghosts X → X → X → List ℕ → ℕ → ℕ → OpenStep → Result T E → Type 0
CutsOverSteps own before now old step time x result =
    (r : Run) → Precedes step r time x → OnErr result (AppendsPrefix (own.held before) (own.held now) (old ++ over_lines step r time))

-- .. and what is kept is that of the step of that time
abbrev pub EntersStep : {T E : Type 0} → ℕ → ℕ → OpenStep → OpenStep → Result T E → Type 0
EntersStep step time old new result =
    (r : Run) → Precedes step r time old → OnOk result (IsStepOf step r (step_of step r.start time) new)
