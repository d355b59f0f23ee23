use Rattle.std.proofs.Common.{◌≤◌, take}
use Rattle.kn_report.specs.Waiting.{Adds, own_rows}
use Rattle.kn_report.proofs.own.add_own_rows.Given as goal

abbrev pub invariant-loop-e : goal.invariant-loop-e
invariant-loop-e g l = record {
  held : Adds (g.O.Sink.held l.fn.out) (g.O.Sink.held l.out) l.fn.waiting l.waiting (own_rows l.i (take l.e-index l.e-items));
  later : g.O.Faulty.faults l.fn.out ≤ g.O.Faulty.faults l.out;
}
