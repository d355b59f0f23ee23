use Rattle.std.proofs.Common.{[], drop, sym, subst, append-nil}
use Rattle.kn_reply.specs.Ends.{ReadsChunks}
use Rattle.kn_reply.proofs.PlainChunks.{ended_there}
use Rattle.kn_reply.proofs.plain.is_in_chunks.Goals as goal

pub returns-in-Ended : goal.returns-in-Ended
returns-in-Ended c =
    ended_there c.chunks_are_determined.ensures c.args.answer.now c.args.start c.in-Ended.end c.in-Ended.ensures.0 c.in-Ended.ensures.1

pub returns-in-Cut : goal.returns-in-Cut
returns-in-Cut c value chunks = c.in-Cut.ensures.1 [] (value, chunks)

pub returns-in-Never : goal.returns-in-Never
returns-in-Never c value chunks =
    let bytes = drop c.args.start c.args.answer.now in
    c.in-Never.ensures [] [] (subst (λ b. ReadsChunks b []) (sym (append-nil bytes)) (value, chunks))
