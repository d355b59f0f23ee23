use Rattle.std.proofs.Common.{◌∙◌}
use Rattle.kn_cell.proofs.Entering.{given_back}
use Rattle.kn_cell.proofs.turn.attempt.Goals as goal

pub returns-in-Ok-clause-ok : goal.returns-in-Ok-clause-ok
returns-in-Ok-clause-ok c =
    given_back c.args.place.now.me.0 c.args.act c.args.time c.enter.new.answer c.enter.new.place.me c.ring_left.new.place.me c.in-Ok.ensures.ok (c.ring_left.ensures.same.2 ∙ c.give.ensures.free)
