use Rattle.std.proofs.Common.{sym, ◌∙◌}
use Rattle.kn_reply.specs.Ends.{agrees}
use Rattle.kn_reply.proofs.Wholes.{all_at}
use Rattle.kn_reply.proofs.reply.all_agree.Goals as goal

pub returns-then-not-agrees : goal.returns-then-not-agrees
returns-then-not-agrees c =
    let fails = sym c.agrees.ensures ∙ c.if-not-agrees.true in
    sym (all_at (agrees c.args.count) c.args.text.now c.args.fields.now c.loop-field.field-index c.loop-field-test.true
    (rw (c.of.ensures, c.of-in-loop-field.ensures) at fails))
