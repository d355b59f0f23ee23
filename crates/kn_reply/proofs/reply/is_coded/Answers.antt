use Rattle.std.proofs.Common.{sym, ◌∙◌}
use Rattle.kn_reply.specs.Replies.{is_coding}
use Rattle.kn_reply.proofs.Wholes.{any_at}
use Rattle.kn_reply.proofs.reply.is_coded.Goals as goal

pub returns-then-is_named : goal.returns-then-is_named
returns-then-is_named c =
    sym (any_at is_coding c.args.text.now c.args.fields.now c.loop-field.field-index c.loop-field-test.true
    (rw c.of.ensures at (sym c.is_named.ensures ∙ c.if-is_named.true)))
