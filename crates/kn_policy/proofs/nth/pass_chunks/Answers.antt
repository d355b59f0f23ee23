use Rattle.std.proofs.Common.{arith}
use Rattle.kn_policy.proofs.Counting.{sum_chunk}
use Rattle.kn_policy.proofs.nth.pass_chunks.Goals as goal

pub chunks-preserved : goal.chunks-preserved
chunks-preserved g c =
    let more = sum_chunk c.args.marks.now c.chunks.place g.row.SIZE (omega arith) in
    record { inside = omega arith; passed = omega (arith, more) }
