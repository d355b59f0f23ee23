use Rattle.kn_request.proofs.TurnFacts.{tick_done}
use Rattle.kn_request.proofs.ticks.tick_once.Goals as goal

pub returns-in-true : goal.returns-in-true
returns-in-true g c = record { tick = tick_done c.args.now c.args.last c.act_once-full.result c.args.pass.now c.act_once-full.new.pass c.in-true.ensures c.act_once-full.ensures.looks c.act_once-full.ensures.once }
