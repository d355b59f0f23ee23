use Rattle.std.proofs.Common.{refl}
use Rattle.kn_show_summary.proofs.summary.SummaryFormFormSummary.make.Goals as goal

pub returns-clause-awaits : goal.returns-clause-awaits
returns-clause-awaits c = record {
  ranges = let said = c.in_ok-rows.ensures in said.ranges;
  start = refl;
  gauges = c.new-2.ensures;
  cold = refl;
  rows = let said = c.in_ok-rows.ensures in said.kept;
}
