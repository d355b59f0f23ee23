use Rattle.std.proofs.Common.{refl}
use Rattle.kn_reply.specs.Plain.{as_it_is}
use Rattle.kn_reply.proofs.PlainHeads.{goes_plain}
use Rattle.kn_reply.proofs.Puts.{puts_of}
use Rattle.kn_reply.proofs.plain.put_plain.Goals as goal

pub returns-in-Some-clause-puts : goal.returns-in-Some-clause-puts
returns-in-Some-clause-puts g c =
    let h = c.in-Some.ensures.some in
    (_, goes_plain c.args.answer.now _ c.in-Some.start c.in-Some.head h, c.put_parts.ensures.puts h)

pub returns-in-None-clause-puts : goal.returns-in-None-clause-puts
returns-in-None-clause-puts g c =
    let answer = c.args.answer.now in
    (answer, as_it_is (c.in-None.ensures.none refl), puts_of _ _ c.put_all.result answer c.put_all.ensures.ok c.put_all.ensures.err)
