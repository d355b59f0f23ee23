-- The journal of a workload's schedule, and what of it was written.
use Rattle.std.specs.Prelude.{◌≡◌, ℕ, ◌++◌, List, [], ◌∷◌, Option, codes, length}
use Rattle.std.specs.Fmt.{decimal}
use Rattle.std.specs.Io.KnownBytes.{Appends}
use Rattle.kn_event.specs.declared.event.Event.{Event}
use Rattle.kn_io.specs.Prefix.{AppendsPrefix}
use Rattle.kn_journal.specs.declared.journal.Journal.{Journal}
use Rattle.kn_journal.specs.Journal.{AreEvents, IsJournal, IsSetup, events_text, journal_text}
use Rattle.kn_agenda.specs.Workload as plain
use Rattle.kn_agenda.specs.Due.{IsSchedule}
use Rattle.kn_agenda.specs.Schedule.{Made, ScheduleState}
use Rattle.kn_preamble.specs.First.{first_line}
use Rattle.kn_report.specs.Waiting.{Adds}
use Rattle.kn_sim.specs.declared.workload.Workload.{Workload}

-- what its schedule depends on
abbrev pub plain_of : Workload → plain.Workload
plain_of w = record { spec = w.setup.spec; start = w.start; boot = w.boot; until = w.until; jobs = w.jobs }

-- the ranges and the order of a workload that can be read, and a setup that is what its own text gives
pub record IsWorkload (w : Workload) : Type 0 where
  pub setup : IsSetup w.setup
  pub plain : plain.IsWorkload (plain_of w)

-- a journal 1 of the setup, the start and these events
abbrev pub simulated : Workload → List Event → Journal
simulated w es = record { version = 1; setup = w.setup; start = w.start; events = es }

-- the whole schedule, of so many events, was written as a journal, which is in range
pub record IsWritten (w : Workload) (old new : Option (List ℕ)) (count : ℕ) : Type 0 where
  pub events : List Event
  pub schedule : IsSchedule (plain_of w) events
  pub many : length events ≡ count
  pub journal : IsJournal (simulated w events)
  pub text : Appends old new (journal_text (simulated w events))

-- some first bytes of it were written, maybe none or all
abbrev pub IsBegun : Workload → Option (List ℕ) → Option (List ℕ) → Type 0
IsBegun w old new = (es : List Event) → IsSchedule (plain_of w) es → AppendsPrefix old new (journal_text (simulated w es))

-- ---- part by part

-- what stands before the events
abbrev pub opening_text : Workload → List ℕ
opening_text w = (first_line 1 ++ 10 ∷ []) ++ (w.setup.text ++ ((codes "start " ++ decimal w.start) ++ 10 ∷ []))

-- all events behind those made before were taken, and their lines came behind what waited
pub record WritesAll (before : List Event) (x y : ScheduleState) (old new : Option (List ℕ)) (waits now : List ℕ) : Type 0 where
  pub events : List Event
  pub schedule : IsSchedule x.workload (before ++ events)
  pub many : length (before ++ events) ≡ y.revision.events
  pub range : AreEvents 1 x.revision.clock events
  pub text : Adds old new waits now (events_text events)

-- some first bytes were written of what waits and the lines of all events behind those made before
abbrev pub WritesSome : List Event → ScheduleState → Option (List ℕ) → Option (List ℕ) → List ℕ → Type 0
WritesSome before x old new waits = (es : List Event) → IsSchedule x.workload (before ++ es) → AppendsPrefix old new (waits ++ events_text es)

-- the same behind each list of events that it made
abbrev pub TakesAll : ScheduleState → ScheduleState → Option (List ℕ) → Option (List ℕ) → List ℕ → List ℕ → Type 0
TakesAll x y old new waits now = (before : List Event) → Made before x → WritesAll before x y old new waits now

abbrev pub TakesSome : ScheduleState → Option (List ℕ) → Option (List ℕ) → List ℕ → Type 0
TakesSome x old new waits = (before : List Event) → Made before x → WritesSome before x old new waits
