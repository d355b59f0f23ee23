use Rattle.std.proofs.Common.{sym, ◌∙◌}
use Rattle.kn_reply.specs.Ends.{is_length}
use Rattle.kn_reply.proofs.Wholes.{any_at}
use Rattle.kn_reply.proofs.Bodies.{says_at}
use Rattle.kn_reply.proofs.reply.length_of.Goals as goal

pub returns-then-is_named-clause-any : goal.returns-then-is_named-clause-any
returns-then-is_named-clause-any c =
    any_at is_length c.args.text.now c.args.fields.now c.loop-field.field-index c.loop-field-test.true
    (rw c.of.ensures at (sym c.is_named.ensures ∙ c.if-is_named.true))

pub returns-then-is_named-clause-some : goal.returns-then-is_named-clause-some
returns-then-is_named-clause-some c n all =
    let named = rw c.of.ensures at (sym c.is_named.ensures ∙ c.if-is_named.true) in
    let said = says_at n c.args.text.now c.args.fields.now c.loop-field.field-index c.loop-field-test.true named all in
    rw c.of-then-is_named.ensures said
