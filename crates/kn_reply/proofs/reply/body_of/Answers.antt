use Rattle.std.proofs.Common.{map, sym, ◌∙◌}
use Rattle.httparse.specs.Spans.{header_bytes}
use Rattle.kn_reply.proofs.Bodies.{stage_sized}
use Rattle.kn_reply.proofs.reply.body_of.Goals as goal

pub returns-in_ok-count-in-Some-clause-stage : goal.returns-in_ok-count-in-Some-clause-stage
returns-in_ok-count-in-Some-clause-stage c =
    let fields = map (header_bytes c.args.text.now) c.args.fields.now in
    let size = c.in_ok-count-in-Some.ensures in
    rw c.if-none.false
    (stage_sized fields c.args.at c.in_ok-count-in-Some.count (sym c.is_in_chunks.ensures ∙ c.if-is_in_chunks.false)
    (sym c.is_coded.ensures ∙ c.if-is_coded.false) c.in-Some.ensures.any size.all.0 size.all.1 size.only)
