use Rattle.std.proofs.Common.{arith, length-drop}
use Rattle.std.proofs.lemmas.List.{take_rest}
use Rattle.kn_reply.proofs.ChunkEnds.{ended, none_from, went_on}
use Rattle.kn_reply.proofs.chunks.follow.Goals as goal

pub returns-in-Last : goal.returns-in-Last
returns-in-Last c =
    ended c.args.reply.now c.args.start c.chunks.at c.in-Last.n c.chunks.invariant.within c.chunks.invariant.same
    (rw (take_rest c.args.reply.now c.chunks.at) at c.in-Last.ensures.chunk)

pub chunks-preserved : goal.chunks-preserved
chunks-preserved c =
    let found = rw (take_rest c.args.reply.now c.chunks.at) at c.in-Data.ensures in
    record {
      within = omega (arith, c.chunks.invariant.within, found.chunk.1, length-drop c.chunks.at c.args.reply.now);
      same = went_on c.args.reply.now c.args.start c.chunks.at c.in-Data.field-0 c.in-Data.end c.chunks.invariant.same found.body;
    }

pub returns-in-Cut : goal.returns-in-Cut
returns-in-Cut c = (
  c.chunks.invariant.within,
  none_from _ _ c.chunks.invariant.same
      (λ rest body. (rw (take_rest c.args.reply.now c.chunks.at) at c.in-Cut.ensures.body) body.0 rest body.1),
  c.chunks.invariant.same,
)

pub returns-in-Never : goal.returns-in-Never
returns-in-Never c more rest reads =
    let body = (c.chunks.invariant.same more rest).0 reads in
    (rw (take_rest c.args.reply.now c.chunks.at) at c.in-Never.ensures.body) more body.0 rest body.1
