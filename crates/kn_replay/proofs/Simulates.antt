-- How a simulation ends, by what reading its workload told.
use Rattle.std.proofs.Common.{◌≡◌, ℕ, List, sym, ap}
use Rattle.std.specs.Prelude.{Option, None, Some, Result, Ok, Err}
use Rattle.kn_journal.specs.declared.error.JournalError.{JournalError}
use Rattle.kn_journal.specs.declared.error.JournalError.TheVariants as error
use Rattle.kn_journal.specs.declared.journal.Journal.{Journal}
use Rattle.kn_journal.specs.declared.status.Status.{Status}
use Rattle.kn_journal.specs.declared.status.Status.TheVariants as status
use Rattle.kn_journal.specs.Causes.{Cause, error_of}
use Rattle.kn_journal.specs.Journal.{IsJournal, good, journal_text, verdict}
use Rattle.kn_journal.specs.Parts.{Part}
use Rattle.kn_journal.specs.Telling.{Refused}
use Rattle.kn_sim.specs.declared.workload.Workload.{Workload}
use Rattle.kn_sim.specs.Reading.{TellsWorkload, workload_of}
use Rattle.kn_sim.specs.Simulated.{IsBegun, IsWritten, simulated}
use Rattle.kn_replay.specs.Replaying.{status_of}
use Rattle.kn_replay.specs.Simulating.{IsRefusedFor, Schedules, Simulates, SimulatesBy}

-- ---- what says nothing of the bytes

of_read_fault : (r : Result (Part Workload) Cause) (old new : Option (List ℕ)) → SimulatesBy r old new status.ReadFault
of_read_fault (Ok p) old new = tt
of_read_fault (Err cause) old new = tt

of_memory : (r : Result (Part Workload) Cause) (old new : Option (List ℕ)) → SimulatesBy r old new status.Memory
of_memory (Ok p) old new = tt
of_memory (Err cause) old new = tt

pub without_memory : (known old new : Option (List ℕ)) → Simulates known old new status.Memory
without_memory None old new = tt
without_memory (Some xs) old new = of_memory (workload_of xs) old new

-- ---- a workload that is refused

refused_for : (e : JournalError) (cause : Cause) → error_of cause ≡ e → IsRefusedFor cause (status_of e)
refused_for error.ReadFault cause is = tt
refused_for error.Memory cause is = tt
refused_for (error.BadFirstLine due) cause is = ap status_of (sym is)
refused_for (error.BadSetup line why) cause is = ap status_of (sym is)
refused_for (error.LineTooLong line) cause is = ap status_of (sym is)
refused_for (error.BadLine line why) cause is = ap status_of (sym is)
refused_for (error.TimeBack line last own) cause is = ap status_of (sym is)
refused_for (error.TimeTooLarge line) cause is = ap status_of (sym is)
refused_for error.NoEnd cause is = ap status_of (sym is)
refused_for (error.AfterEnd line) cause is = ap status_of (sym is)
refused_for (error.TooMany line) cause is = ap status_of (sym is)

by_cause : (r : Result (Part Workload) Cause) (e : JournalError) (old new : Option (List ℕ)) → (cause : Cause) × (error_of cause ≡ e) × (r ≡ Err cause)
    → SimulatesBy r old new (status_of e)
by_cause r e old new (cause, is, h) = rw h (refused_for e cause is)

by_error : (r : Result (Part Workload) Cause) (e : JournalError) (old new : Option (List ℕ)) → Refused e r → SimulatesBy r old new (status_of e)
by_error r error.ReadFault old new h = of_read_fault r old new
by_error r error.Memory old new h = of_memory r old new
by_error r (error.BadFirstLine due) old new h = by_cause r (error.BadFirstLine due) old new h
by_error r (error.BadSetup line why) old new h = by_cause r (error.BadSetup line why) old new h
by_error r (error.LineTooLong line) old new h = by_cause r (error.LineTooLong line) old new h
by_error r (error.BadLine line why) old new h = by_cause r (error.BadLine line why) old new h
by_error r (error.TimeBack line last own) old new h = by_cause r (error.TimeBack line last own) old new h
by_error r (error.TimeTooLarge line) old new h = by_cause r (error.TimeTooLarge line) old new h
by_error r error.NoEnd old new h = by_cause r error.NoEnd old new h
by_error r (error.AfterEnd line) old new h = by_cause r (error.AfterEnd line) old new h
by_error r (error.TooMany line) old new h = by_cause r (error.TooMany line) old new h

pub refused : (known old new : Option (List ℕ)) (e : JournalError) → TellsWorkload known (Err e) → Simulates known old new (status_of e)
refused None old new e h = tt
refused (Some xs) old new e h = by_error (workload_of xs) e old new h

-- ---- a good workload

by_workload : (known old new : Option (List ℕ)) (w : Workload) (result : Status) → TellsWorkload known (Ok w) → Schedules w old new result → Simulates known old new result
by_workload None old new w result h all = tt
by_workload (Some xs) old new w result (n, left, h) all = rw h all

pub written : (known old new : Option (List ℕ)) (w : Workload) (count : ℕ) → ((j : Journal) → IsJournal j → verdict (journal_text j) ≡ good j)
    → TellsWorkload known (Ok w) → IsWritten w old new count → Simulates known old new status.Ok
written known old new w count are_read tells h =
    by_workload known old new w status.Ok tells
    (record { events = h.events; schedule = h.schedule; text = h.text; reads = are_read (simulated w h.events) h.journal })

pub begun : (known old new : Option (List ℕ)) (w : Workload) → TellsWorkload known (Ok w) → IsBegun w old new → Simulates known old new status.WriteFault
begun known old new w tells h = by_workload known old new w status.WriteFault tells h
