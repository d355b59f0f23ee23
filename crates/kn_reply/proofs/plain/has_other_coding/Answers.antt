use Rattle.std.proofs.Common.{sym, ◌∙◌}
use Rattle.kn_reply.specs.Plain.{is_other_coding}
use Rattle.kn_reply.proofs.Wholes.{any_at}
use Rattle.kn_reply.proofs.plain.has_other_coding.Goals as goal

pub returns-then-is_other_coding : goal.returns-then-is_other_coding
returns-then-is_other_coding c =
    sym (any_at is_other_coding c.args.text.now c.args.fields.now c.loop-field.field-index c.loop-field-test.true
    (rw c.of-in-loop-field.ensures at (rw c.of.ensures at (sym c.is_other_coding.ensures ∙ c.if-is_other_coding.true))))
