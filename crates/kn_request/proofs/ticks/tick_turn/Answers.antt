use Rattle.kn_request.proofs.TurnFacts.{turn_of}
use Rattle.kn_request.proofs.ticks.tick_turn.Goals as goal

pub returns-clause-turn : goal.returns-clause-turn
returns-clause-turn g c =
    let told = g.L.PodLink.told in
    let t = turn_of c.server_laws.ensures.request c.server_laws.ensures.pods c.args.now c.args.last c.tick_once-tick.result.last c.tick_once-tick.result.full c.probe_all-full.result c.args.pass.now c.tick_once-tick.new.pass c.probe_all-full.new.pass (told c.args.keeper.now) (told c.probe_all-full.new.keeper)
    c.tick_once-tick.ensures.tick c.probe_all-full.ensures.looks c.probe_all-full.ensures.all in
    rw c.either-full.ensures t
