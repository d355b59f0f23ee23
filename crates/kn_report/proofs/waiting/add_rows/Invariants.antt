use Rattle.std.proofs.Common.{◌≡◌, ◌+◌, ◌≤◌, ◌++◌, take}
use Rattle.kn_trace.specs.Report.{rows_text, totals}
use Rattle.kn_trace.specs.Trace.{Trace}
use Rattle.kn_report.specs.Waiting.{Adds}
use Rattle.kn_report.proofs.waiting.add_rows.Given as goal

abbrev pub invariant-loop-e : goal.invariant-loop-e
invariant-loop-e g l = record {
  held : Adds (g.O.Sink.held l.fn.out) (g.O.Sink.held l.out) l.fn.waiting l.waiting (rows_text (take l.e-index l.e-items));
  later : g.O.Faulty.faults l.fn.out ≤ g.O.Faulty.faults l.out;
  rows : l.tally.rows ≡ l.fn.tally.rows + l.e-index;
  totals : (c : Trace) → l.fn.tally.totals ≡ totals c → l.tally.totals ≡ totals (c ++ take l.e-index l.e-items);
}
