use Rattle.std.proofs.Common.{arith}
use Rattle.std.proofs.lemmas.Grind.{common_steps}
use Rattle.kn_opener.proofs.tcp_opener.fill.Goals as goal

pub loop-preserved : goal.loop-preserved
loop-preserved g c = record {
  count = grind (arith, common_steps);
  works = λ k d low. grind (arith, common_steps, c.loop.invariant.works k d);
  reach = λ k d low. grind (arith, common_steps, c.loop.invariant.reach k d);
}
