use Rattle.std.proofs.Common.{[], true, false, sym, subst, ◌∙◌, append-nil}
use Rattle.kn_reply.specs.Ends.{ReadsHeads}
use Rattle.kn_reply.proofs.PlainHeads.{alone_by, not_alone, not_whole}
use Rattle.kn_reply.proofs.plain.head_in_chunks.Goals as goal

pub returns-then-not-are_chunks_alone-clause-none : goal.returns-then-not-are_chunks_alone-clause-none
returns-then-not-are_chunks_alone-clause-none c is interim head value x =
    let answer = c.args.answer.now in
    let r = c.in-Ok-Complete.head in
    let start = c.in-Ok-Complete.start in
    let found = rw c.in-Ok-Complete.field-0-is at c.in-Ok-Complete.ensures.whole in
    not_alone answer _ start r found
    (alone_by answer _ start r found c.split_at.result.1.now c.split_at.ensures.back false
    (sym c.if-not-are_chunks_alone.true ∙ c.are_chunks_alone.ensures)) interim head value x

pub returns-then-not-is_in_chunks-clause-none : goal.returns-then-not-is_in_chunks-clause-none
returns-then-not-is_in_chunks-clause-none c is interim head value x =
    let found = rw c.in-Ok-Complete.field-0-is at c.in-Ok-Complete.ensures.whole in
    not_whole c.args.answer.now _ c.in-Ok-Complete.start c.in-Ok-Complete.head found c.if-not-is_in_chunks.ensures interim head value x

pub returns-else-not-is_in_chunks-clause-some : goal.returns-else-not-is_in_chunks-clause-some
returns-else-not-is_in_chunks-clause-some c =
    let found = rw c.in-Ok-Complete.field-0-is at c.in-Ok-Complete.ensures.whole in
    let whole = c.if-not-is_in_chunks.ensures in
    record {
      found = found;
      coded =
          alone_by c.args.answer.now _ c.in-Ok-Complete.start c.in-Ok-Complete.head found c.split_at.result.1.now c.split_at.ensures.back true
          (sym c.if-not-are_chunks_alone.false ∙ c.are_chunks_alone.ensures);
      value = whole.0;
      chunks = whole.1;
    }

pub returns-in-Err-clause-none : goal.returns-in-Err-clause-none
returns-in-Err-clause-none c is interim head value x =
    c.in-Err.ensures.never [] head x.body (subst (λ b. ReadsHeads 0 b head x.body) (sym (append-nil c.args.answer.now)) x.heads)
