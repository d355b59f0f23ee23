use Rattle.std.proofs.Common.{◌≤◌, refl, arith}
use Rattle.kn_cell.proofs.TurnFacts.{waits_of, waits_after}
use Rattle.kn_cell.proofs.turn.take_turn.Goals as goal

pub returns-then-found-eq0-clause-turn : goal.returns-then-found-eq0-clause-turn
returns-then-found-eq0-clause-turn g c =
    let m = c.args.place.now.me in
    let same : m.0.missed ≤ m.0.missed = omega arith in
    waits_of m.0 m.0 m.1 c.take-found.new.place.me same (λ _. refl) c.requires.free.1 refl (c.take-found.ensures.turn c.if-found-eq0.true)

pub returns-clause-turn : goal.returns-clause-turn
returns-clause-turn g c =
    waits_after c.args.place.now.me c.take-found.new.place.me c.await_turn.new.place.me (c.take-found.ensures.held c.if-found-eq0.false) c.await_turn.ensures.turn
