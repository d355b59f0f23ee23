use Rattle.kn_tests_cell.proofs.Stills.{looks_still}
use Rattle.kn_tests_cell.proofs.ticks.act.Goals as goal

pub returns-then-eq : goal.returns-then-eq
returns-then-eq g c = looks_still _ _ c.tick_turn.ensures.turn.later.same

pub returns : goal.returns
returns g c = looks_still _ _ c.ticker.ensures.turns.1.later.same
