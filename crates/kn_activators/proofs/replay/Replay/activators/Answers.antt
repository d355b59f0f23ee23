use Rattle.kn_activators.proofs.Standings.{parts_are}
use Rattle.kn_activators.proofs.replay.Replay.activators.Goals as goal

pub returns-clause-parts : goal.returns-clause-parts
returns-clause-parts c = rw (← c.self.view_is) (parts_are c.self.inside.setup c.self.inside.group c.self.invariant.of)
