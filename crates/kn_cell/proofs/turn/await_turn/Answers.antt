use Rattle.kn_cell.proofs.TurnFacts.{waits_of}
use Rattle.kn_cell.proofs.turn.await_turn.Goals as goal

pub returns-then-found-eq0-clause-turn : goal.returns-then-found-eq0-clause-turn
returns-then-found-eq0-clause-turn g c =
    let i = c.loop.invariant in
    let turn = c.take-found.ensures.turn c.if-found-eq0.true in
    waits_of c.args.place.now.me.0 c.loop.place.me.0 c.loop.place.me.1 c.take-found.new.place.me i.later i.alone c.requires.free.1 i.view turn

pub returns-then-take-eq0-clause-turn : goal.returns-then-take-eq0-clause-turn
returns-then-take-eq0-clause-turn g c =
    let i = c.loop-2.invariant in
    let turn = c.take.ensures.turn c.if-take-eq0.true in
    waits_of c.args.place.now.me.0 c.loop-2.place.me.0 c.loop-2.place.me.1 c.take.new.place.me i.later i.alone c.requires.free.1 i.view turn
