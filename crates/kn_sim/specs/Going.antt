-- A schedule whose events are written one after the other.
use Rattle.std.specs.Prelude.{◌≡◌, ℕ, ◌++◌, List, [], ◌∷◌, Option}
use Rattle.kn_event.specs.declared.event.Event.{Event}
use Rattle.kn_journal.specs.Journal.{AreEvents, events_text}
use Rattle.kn_agenda.specs.Schedule.{Made, ScheduleState}
use Rattle.kn_report.specs.Waiting.{Adds}

-- the time of the last event, or this one where there is none
abbrev pub last_time : ℕ → List Event → ℕ
last_time last [] = last
last_time last (e ∷ es) = last_time e.time es

-- these events were taken so far, and their lines came behind what waited
pub record GoesOn (before : List Event) (x y : ScheduleState) (old new : Option (List ℕ)) (waits now : List ℕ) : Type 0 where
  pub events : List Event
  pub made : Made (before ++ events) y
  pub range : AreEvents 1 x.revision.clock events
  pub last : last_time x.revision.clock events ≡ y.revision.clock
  pub text : Adds old new waits now (events_text events)
