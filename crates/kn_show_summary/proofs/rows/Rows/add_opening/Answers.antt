use Rattle.std.proofs.Common.{arith}
use Rattle.std.proofs.lemmas.Grind.{common_steps}
use Rattle.kn_show_summary.proofs.Counting.{counted_more, with_row-admitted}
use Rattle.kn_show_summary.proofs.rows.Rows.add_opening.Goals as goal

pub loop-e-preserved : goal.loop-e-preserved
loop-e-preserved c = record {
  rows = grind arith;
  admitted = grind (arith, with_row-admitted, c.add.ensures.counted.counted, c.loop-e.invariant.admitted);
  waits = grind arith;
  lives = grind arith;
  counted = λ s t h. grind (arith, common_steps, c.loop-e.invariant.counted s t h, counted_more c.fact_laws.ensures s t c.entries-e-items.result.now c.loop-e.e-index c.e-item.result);
}
