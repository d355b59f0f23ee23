-- What simulating a workload writes, and how it ends.
use Rattle.std.specs.Prelude.{◌≡◌, ℕ, List, Option, None, Some, Result, Ok, Err, ⊤}
use Rattle.std.specs.Io.KnownBytes.{Appends}
use Rattle.kn_event.specs.declared.event.Event.{Event}
use Rattle.kn_agenda.specs.Due.{IsSchedule}
use Rattle.kn_journal.specs.declared.status.Status.{Status}
use Rattle.kn_journal.specs.declared.status.Status.TheVariants as status
use Rattle.kn_journal.specs.Causes.{Cause, error_of}
use Rattle.kn_journal.specs.Journal.{good, journal_text, verdict}
use Rattle.kn_journal.specs.Parts.{Part}
use Rattle.kn_sim.specs.declared.workload.Workload.{Workload}
use Rattle.kn_sim.specs.Reading.{workload_of}
use Rattle.kn_sim.specs.Simulated.{IsBegun, plain_of, simulated}
use Rattle.kn_replay.specs.Replaying.{status_of}

-- the journal of its whole schedule was written, and is read as that journal
pub record WritesSchedule (w : Workload) (old new : Option (List ℕ)) : Type 0 where
  pub events : List Event
  pub schedule : IsSchedule (plain_of w) events
  pub text : Appends old new (journal_text (simulated w events))
  pub reads : verdict (journal_text (simulated w events)) ≡ good (simulated w events)

-- of a good workload
abbrev pub Schedules : Workload → Option (List ℕ) → Option (List ℕ) → Status → Type 0
Schedules w old new status.Ok = WritesSchedule w old new
Schedules w old new status.WriteFault = IsBegun w old new
Schedules w old new status.ReadFault = ⊤
Schedules w old new status.Memory = ⊤
Schedules w old new _ = ⊥

-- of one that is refused for this cause
abbrev pub IsRefusedFor : Cause → Status → Type 0
IsRefusedFor cause status.ReadFault = ⊤
IsRefusedFor cause status.Memory = ⊤
IsRefusedFor cause result = result ≡ status_of (error_of cause)

abbrev pub SimulatesBy : Result (Part Workload) Cause → Option (List ℕ) → Option (List ℕ) → Status → Type 0
SimulatesBy (Ok p) old new result = Schedules p.value old new result
SimulatesBy (Err cause) old new result = IsRefusedFor cause result

-- of an input with these bytes
abbrev pub Simulates : Option (List ℕ) → Option (List ℕ) → Option (List ℕ) → Status → Type 0
Simulates None old new result = ⊤
Simulates (Some xs) old new result = SimulatesBy (workload_of xs) old new result
