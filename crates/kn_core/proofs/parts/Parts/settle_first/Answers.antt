use Rattle.kn_core.proofs.Usual.{rest_ready}
use Rattle.kn_core.proofs.parts.Parts.settle_first.Goals as goal

pub settle_rest-requires-clause-some : goal.settle_rest-requires-clause-some
settle_rest-requires-clause-some c = rest_ready c.args.time c.dispatch-next.result c.args.self.now c.dispatch-next.new.self c.dispatch-next.ensures.stands c.requires.some
