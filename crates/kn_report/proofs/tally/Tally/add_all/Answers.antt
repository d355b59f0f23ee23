use Rattle.std.proofs.Common.{arith}
use Rattle.std.proofs.lemmas.Grind.{common_steps}
use Rattle.kn_report.proofs.Tallies.{totals_more}
use Rattle.kn_report.proofs.tally.Tally.add_all.Goals as goal

pub loop-e-preserved : goal.loop-e-preserved
loop-e-preserved c = record {
  rows = grind arith;
  totals = λ t h. grind (arith, common_steps, c.loop-e.invariant.totals t h, totals_more t c.entries-e-items.result.now c.loop-e.e-index c.e-item.result);
}
