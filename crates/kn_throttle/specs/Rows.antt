-- The rows that answers stand for.
use Rattle.std.specs.Prelude.{ℕ, Bool, true, false}
use Rattle.kn_event.specs.declared.entry.Row.{Row}
use Rattle.kn_event.specs.declared.entry.Row.TheVariants as row
use Rattle.kn_throttle.specs.declared.throttle.arriving.Arrival.{Arrival}
use Rattle.kn_throttle.specs.declared.throttle.arriving.Arrival.TheVariants as arrival
use Rattle.kn_throttle.specs.declared.throttle.dispatching.Dispatch.{Dispatch}
use Rattle.kn_throttle.specs.declared.throttle.dispatching.Dispatch.TheVariants as dispatch

abbrev pub arrival_row : ℕ → ℕ → Arrival → Row
arrival_row r tag arrival.Overload = row.Overload r
arrival_row r tag (arrival.QueueFull p) = row.QueueFull r p
arrival_row r tag (arrival.Direct p) = row.Direct r p
arrival_row r tag arrival.Admit = row.Admit r tag

abbrev pub finish_row : ℕ → Bool → Bool → Row
finish_row r ok true = row.Finish r ok
finish_row r ok false = row.NotRunning r

abbrev pub cancel_row : ℕ → Bool → Row
cancel_row r true = row.Cancel r
cancel_row r false = row.NotWaiting r

abbrev pub dispatch_row : Dispatch → Row
dispatch_row (dispatch.Run r) = row.Run r
dispatch_row (dispatch.Assign r p) = row.Assign r p
