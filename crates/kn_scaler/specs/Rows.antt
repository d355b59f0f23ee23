-- The rows that the autoscaler answers for.
use Rattle.std.specs.Prelude.{◌≡◌, ℕ, ◌≤◌, Bool, true, false, not, List, [], ◌∷◌, ◌++◌, Option, None, Some}
use Rattle.std.specs.Bool.{then_some}
use Rattle.kn_event.specs.declared.entry.Decision.{Decision}
use Rattle.kn_event.specs.declared.entry.Entry.{Entry}
use Rattle.kn_event.specs.declared.entry.Mode.{Mode}
use Rattle.kn_event.specs.declared.entry.Phase.{Phase}
use Rattle.kn_event.specs.declared.entry.Phase.TheVariants as phase
use Rattle.kn_event.specs.declared.entry.Row.{Row}
use Rattle.kn_event.specs.declared.entry.Row.TheVariants as row
use Rattle.kn_scaling.specs.Decide.{Ruling}
use Rattle.kn_scaling.specs.Burst.{is_same_mode}
use Rattle.kn_trace.specs.Rows.{decision_by, mode_by, phase_by}
use Rattle.kn_trace.specs.Scale.{count_ready, is_in_phase, mode_of, phase_of, where_true}
use Rattle.kn_trace.specs.Trace.{Trace, entry}
use Rattle.kn_scaler.specs.declared.scaler.Ruled.{Ruled}

-- an entry that says nothing of phase, mode and decisions, and after which no more pods are Ready
pub record IsBeside (c : Trace) (e : Entry) : Type 0 where
  pub phase : phase_by e.row ≡ None
  pub mode : mode_by e.row ≡ None
  pub decision : decision_by e.row ≡ None
  pub ready : count_ready (c ++ e ∷ []) ≤ count_ready c

-- a row that says something of phase, mode or decisions, or that a pod is Ready
abbrev pub says_scale : Row → Bool
says_scale (row.Ready p) = true
says_scale (row.Phase x) = true
says_scale (row.Mode m) = true
says_scale (row.Decided d) = true
says_scale _ = false

-- a row that leaves live requests as they are, and that says nothing of the scale
abbrev pub is_quiet : Row → Bool
is_quiet (row.QueueFull r pod) = true
is_quiet (row.Overload r) = true
is_quiet (row.Run r) = true
is_quiet (row.Create p n) = true
is_quiet (row.Limit p n) = true
is_quiet (row.Drain p) = true
is_quiet (row.Remove p) = true
is_quiet (row.LostPod p) = true
is_quiet row.NoData = true
is_quiet (row.NotRunning r) = true
is_quiet (row.NotWaiting r) = true
is_quiet (row.NotStarting p) = true
is_quiet (row.NoPod p) = true
is_quiet _ = false

-- a row of a settling
abbrev pub settles : Row → Bool
settles (row.Run r) = true
settles (row.Assign r p) = true
settles (row.Remove p) = true
settles _ = false

-- the rows of a decision but those of the pods: it, and the phase and the mode where they changed
abbrev pub ruling_rows : ℕ → Trace → Ruling → List Entry
ruling_rows t c made =
    entry t (row.Decided made.decision)
    ∷ where_true (not (is_in_phase made.phase (phase_of c))) (entry t (row.Phase made.phase) ∷ [])
    ++ where_true (not (is_same_mode made.decision.mode (mode_of c))) (entry t (row.Mode made.decision.mode) ∷ [])

abbrev pub tick_rulings : ℕ → Trace → Option Ruling → List Entry
tick_rulings t c None = entry t row.NoData ∷ []
tick_rulings t c (Some made) = ruling_rows t c made

-- a decision, and the phase and the mode after it where those before it were others
abbrev pub ruled_from : Decision → Phase → Mode → Phase → Mode → Ruled
ruled_from decision phase_before mode_before phase_after mode_after = record {
  decision = decision;
  phase = then_some (not (is_in_phase phase_after (Some phase_before))) phase_after;
  mode = then_some (not (is_same_mode mode_after mode_before)) mode_after;
}

-- what is answered of a decision: it, and the phase and the mode where they changed
abbrev pub ruled_by : Trace → Ruling → Ruled
ruled_by c made = record {
  decision = made.decision;
  phase = then_some (not (is_in_phase made.phase (phase_of c))) made.phase;
  mode = then_some (not (is_same_mode made.decision.mode (mode_of c))) made.decision.mode;
}

-- the rows of a pod that is Ready, which may be the first one
abbrev pub ready_rows : ℕ → Trace → ℕ → List Entry
ready_rows t c p = entry t (row.Ready p) ∷ where_true (is_in_phase phase.Activating (phase_of c)) (entry t (row.Phase phase.Active) ∷ [])
