use Rattle.kn_faults.proofs.Counting.{later_second}
use Rattle.kn_faults.proofs.limiter.Limiter.begin.Goals as goal

pub returns-then-later-clause-stands : goal.returns-then-later-clause-stands
returns-then-later-clause-stands c = later_second c.args.self.now c.args.second c.if-later.true
