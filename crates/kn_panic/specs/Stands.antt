-- Which decisions a Panic stands for.
use Rattle.std.specs.Prelude.{ℕ, Bool, true, false, ◌≡◌, ◌+◌, nat_le, List, Option, None, Some, option_map}
use Rattle.std.specs.List.{find}
use Rattle.kn_event.specs.declared.entry.Counts.{Counts}
use Rattle.kn_scaling.specs.declared.panic.Judged.{Judged}
use Rattle.kn_scaling.specs.Panic.{is_over_decision, greatest_of_run}

-- what a Panic keeps
pub record PanicState : Type 0 where
  pub moment : Option ℕ  -- of the last decision that was over
  pub greatest : ℕ  -- of the run that panics now, or 0

abbrev pub last_moment : List Judged → Option ℕ
last_moment decisions = option_map (λ d. d.time) (find is_over_decision decisions)

-- it stands for these earlier decisions, the latest first
pub record IsPanicOf (state : PanicState) (decisions : List Judged) : Type 0 where
  pub moment : state.moment ≡ last_moment decisions
  pub greatest : state.greatest ≡ greatest_of_run decisions

abbrev pub judged_by : ℕ → Counts → ℕ → Judged
judged_by time counts window_ms = record { time = time; counts = counts; window_ms = window_ms }

-- ---- what one more decision changes

abbrev pub moment_after : Bool → ℕ → Option ℕ → Option ℕ
moment_after true time before = Some time
moment_after false time before = before

-- whether a time lies at most a window after the moment
abbrev pub is_moment_within : ℕ → ℕ → Option ℕ → Bool
is_moment_within time window_ms None = false
is_moment_within time window_ms (Some moment) = nat_le time (moment + window_ms)
