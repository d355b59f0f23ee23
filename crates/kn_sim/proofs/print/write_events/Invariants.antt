-- What waited, and then what was written and waits are the lines of the events so far.
use Rattle.std.proofs.Common.{◌≡◌, ◌≤◌, ◌-◌, List}
use Rattle.kn_event.specs.declared.event.Event.{Event}
use Rattle.kn_agenda.specs.Schedule.{Made}
use Rattle.kn_sim.specs.Going.{GoesOn}
use Rattle.kn_sim.proofs.print.write_events.Given as goal

abbrev pub invariant-loop-e : goal.invariant-loop-e
invariant-loop-e g l = record {
  goes : (before : List Event) → Made before l.fn.schedule → GoesOn before l.fn.schedule l.schedule (g.O.Sink.held l.fn.out) (g.O.Sink.held l.out) l.fn.waiting l.waiting;
  workload : l.schedule.workload ≡ l.fn.schedule.workload;
  kept : g.O.Sink.kept l.out ≡ g.O.Sink.kept l.fn.out;
  later : g.O.Faulty.faults l.fn.out ≤ g.O.Faulty.faults l.out;
}

-- a schedule has only so many events
abbrev pub decreases-loop-e : goal.decreases-loop-e
decreases-loop-e g l = 71886900 - l.schedule.revision.events
