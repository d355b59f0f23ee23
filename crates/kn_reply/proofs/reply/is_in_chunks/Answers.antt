use Rattle.std.proofs.Common.{sym, ◌∙◌}
use Rattle.kn_reply.specs.Replies.{is_chunks_coding}
use Rattle.kn_reply.proofs.Wholes.{any_at}
use Rattle.kn_reply.proofs.reply.is_in_chunks.Goals as goal

pub returns-then-is_chunks_coding : goal.returns-then-is_chunks_coding
returns-then-is_chunks_coding c =
    let passes = sym c.is_chunks_coding.ensures ∙ c.if-is_chunks_coding.true in
    sym (any_at is_chunks_coding c.args.text.now c.args.fields.now c.loop-field.field-index c.loop-field-test.true
    (rw (c.of.ensures, c.of-in-loop-field.ensures) at passes))
