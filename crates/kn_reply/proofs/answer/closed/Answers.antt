use Rattle.std.proofs.Common.{[], sym, subst, append-nil}
use Rattle.kn_reply.specs.Ends.{ReadsHeads}
use Rattle.kn_reply.proofs.answer.closed.Goals as goal

pub unreachable-requires : goal.unreachable-requires
unreachable-requires c =
    let heads = c.requires.heads in
    let none = rw c.in-Ok-Partial.field-0-is at c.in-Ok-Partial.ensures.cut in
    none heads.0 heads.1 heads.2

pub unreachable-requires-in-Err : goal.unreachable-requires-in-Err
unreachable-requires-in-Err c =
    let heads = c.requires.heads in
    c.in-Err.ensures.never [] heads.0 heads.1 (subst (λ b. ReadsHeads 0 b heads.0 heads.1) (sym (append-nil c.args.reply.now)) heads.2)
