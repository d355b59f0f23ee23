-- What was written are the lines of the events so far.
use Rattle.std.proofs.Common.{◌≡◌, ◌≤◌, take}
use Rattle.std.specs.Io.KnownBytes.{Appends}
use Rattle.kn_journal.specs.Journal.{events_text}
use Rattle.kn_journal.proofs.write.write_events.Given as goal

abbrev pub invariant-loop-e : goal.invariant-loop-e
invariant-loop-e g l = record {
  held : Appends (g.O.Sink.held l.fn.out) (g.O.Sink.held l.out) (events_text (take l.e-index l.events));
  kept : g.O.Sink.kept l.out ≡ g.O.Sink.kept l.fn.out;
  later : g.O.Faulty.faults l.fn.out ≤ g.O.Faulty.faults l.out;
}
