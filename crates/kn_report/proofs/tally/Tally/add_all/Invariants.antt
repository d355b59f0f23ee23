use Rattle.std.proofs.Common.{◌≡◌, ◌+◌, ◌++◌, take}
use Rattle.kn_trace.specs.Trace.{Trace}
use Rattle.kn_trace.specs.Report.{totals}
use Rattle.kn_report.proofs.tally.Tally.add_all.Given as goal

abbrev pub invariant-loop-e : goal.invariant-loop-e
invariant-loop-e l = record {
  rows : l.self.rows ≡ l.fn.self.rows + l.e-index;
  totals : (c : Trace) → l.fn.self.totals ≡ totals c → l.self.totals ≡ totals (c ++ take l.e-index l.e-items);
}
