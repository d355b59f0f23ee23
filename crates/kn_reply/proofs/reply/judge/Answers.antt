use Rattle.std.proofs.Common.{subst}
use Rattle.kn_reply.specs.Ends.{Meets}
use Rattle.kn_reply.proofs.Bodies.{until_open, chunks_ended, chunks_open, chunks_never}
use Rattle.kn_reply.proofs.reply.judge.Goals as goal

pub returns-in-Ended : goal.returns-in-Ended
returns-in-Ended c =
    let meets = rw c.in-Ok-Complete.field-0-is at c.in-Ok-Complete.ensures.whole in
    chunks_ended c.args.request.now c.args.reply.now c.in-Chunks.at c.in-Ended.n
    (subst (Meets c.args.request.now c.args.reply.now) c.in-Chunks.is meets) c.in-Ended.ensures

pub returns-in-Cut : goal.returns-in-Cut
returns-in-Cut c =
    let meets = rw c.in-Ok-Complete.field-0-is at c.in-Ok-Complete.ensures.whole in
    chunks_open c.args.request.now c.args.reply.now c.in-Chunks.at c.in-Cut.n
    (subst (Meets c.args.request.now c.args.reply.now) c.in-Chunks.is meets) c.in-Cut.ensures

pub returns-in-Never : goal.returns-in-Never
returns-in-Never c =
    let meets = rw c.in-Ok-Complete.field-0-is at c.in-Ok-Complete.ensures.whole in
    chunks_never c.args.request.now c.args.reply.now c.in-Chunks.at
    (subst (Meets c.args.request.now c.args.reply.now) c.in-Chunks.is meets) c.in-Never.ensures

pub returns-in-Until-2 : goal.returns-in-Until-2
returns-in-Until-2 c =
    let meets = rw c.in-Ok-Complete.field-0-is at c.in-Ok-Complete.ensures.whole in
    let is = subst (Meets c.args.request.now c.args.reply.now) c.in-Until.is meets in
    (is, until_open c.args.request.now c.args.reply.now c.in-Until.end is c.if-end-reply.false)
