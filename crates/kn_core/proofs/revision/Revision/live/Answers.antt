use Rattle.std.proofs.Common.{subst}
use Rattle.kn_core.specs.State.{StandsForSome}
use Rattle.kn_core.proofs.revision.Revision.live.Goals as goal

pub returns-clause-some : goal.returns-clause-some
returns-clause-some c = subst StandsForSome c.self.view_is c.self.invariant.some
