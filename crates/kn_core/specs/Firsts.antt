-- The rows that an event begins with, which its answer has and not the log.
use Rattle.std.specs.Prelude.{◌≡◌, ℕ, Bool, true, false, List, [], ◌∷◌, Option, None, Some}
use Rattle.kn_event.specs.declared.entry.Entry.{Entry}
use Rattle.kn_event.specs.declared.entry.Row.{Row}
use Rattle.kn_event.specs.declared.entry.Row.TheVariants as row
use Rattle.kn_event.specs.declared.event.Act.{Act}
use Rattle.kn_event.specs.declared.event.Act.TheVariants as act
use Rattle.kn_event.specs.declared.event.Event.{Event}
use Rattle.kn_trace.specs.Events.{departures}
use Rattle.kn_trace.specs.Trace.{Trace, entry}
use Rattle.kn_record.specs.Made.{IsRecordOf}
use Rattle.kn_throttle.specs.declared.throttle.dispatching.Dispatch.{Dispatch}
use Rattle.kn_throttle.specs.Rows.{dispatch_row}
use Rattle.kn_throttle.specs.State as throttle
use Rattle.kn_core.specs.declared.first.FirstRows.{FirstRows}
use Rattle.kn_core.specs.declared.first.FirstRows.TheVariants as first
use Rattle.kn_core.specs.declared.first.OwnRow.{OwnRow}
use Rattle.kn_core.specs.declared.first.OwnRow.TheVariants as own

abbrev pub own_row : OwnRow → Row
own_row (own.Admit r tag) = row.Admit r tag
own_row (own.Direct r p) = row.Direct r p
own_row (own.QueueFull r) = row.QueueFull r None
own_row (own.PodFull r p) = row.QueueFull r (Some p)
own_row (own.Overload r) = row.Overload r
own_row (own.Finish r ok) = row.Finish r ok
own_row (own.NotRunning r) = row.NotRunning r

-- with which a request is dispatched, if one is
abbrev pub dispatched : ℕ → Option Dispatch → List Entry
dispatched t None = []
dispatched t (Some d) = entry t (dispatch_row d) ∷ []

abbrev pub first_rows : ℕ → FirstRows → List Entry
first_rows t first.Nothing = []
first_rows t (first.Own x) = entry t (own_row x) ∷ []
first_rows t (first.Both x d) = entry t (own_row x) ∷ entry t (dispatch_row d) ∷ []

-- ---- an arrival or a finish at which nobody's time is over

abbrev pub is_usual_act : Act → Bool
is_usual_act (act.Arrive tag) = true
is_usual_act (act.Finish r ok) = true
is_usual_act _ = false

pub record IsUsual (e : Event) (x : throttle.State) : Type 0 where
  pub act : is_usual_act e.act ≡ true
  pub stays : (c : Trace) → IsRecordOf x.admission c → departures x.spec c e ≡ []
