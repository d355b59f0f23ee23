-- How a request ended, or why it was refused.
use Rattle.std.specs.Prelude.{ℕ, Bool, ◌==◌, Option, None}
use Rattle.std.specs.Bool.{then_some}
use Rattle.kn_event.specs.declared.entry.Row.{Row}
use Rattle.kn_event.specs.declared.entry.Row.TheVariants as row
use Rattle.kn_trace.specs.Trace.{Trace, each_row, first_of}

pub data Outcome : Type 0 where
  Refused : Outcome  -- a full breaker, or a full pod
  Overload : Outcome
  Expired : Outcome
  Cancelled : Outcome
  Finished : Bool → Outcome
  Lost : Outcome  -- with its pod

-- the outcome of request r, where the row says it
abbrev pub outcome_in : ℕ → Row → Option Outcome
outcome_in r (row.QueueFull q pod) = then_some (q == r) Refused
outcome_in r (row.Overload q) = then_some (q == r) Overload
outcome_in r (row.Expire q) = then_some (q == r) Expired
outcome_in r (row.Cancel q) = then_some (q == r) Cancelled
outcome_in r (row.Finish q ok) = then_some (q == r) (Finished ok)
outcome_in r (row.LostRequest q) = then_some (q == r) Lost
outcome_in r _ = None

-- what the first row says that ends or refuses it; none before
unfoldable pub outcome_of : Trace → ℕ → Option Outcome
outcome_of c r = first_of (each_row (outcome_in r) c)
