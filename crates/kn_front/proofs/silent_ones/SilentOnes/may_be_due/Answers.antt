use Rattle.std.proofs.Common.{arith}
use Rattle.std.specs.Duration.{as_nanos}
use Rattle.slab.specs.Slab.{get}
use Rattle.kn_front.proofs.Waits.{not_due}
use Rattle.kn_front.proofs.silent_ones.SilentOnes.may_be_due.Goals as goal

pub returns-in-Some : goal.returns-in-Some
returns-in-Some c more place =
    not_due
    c.in-Some.wait
    c.args.now
    (as_nanos c.args.idle)
    (get c.args.self.now.ones place)
    (grind (arith, c.is_zero.ensures))
    (λ it at. c.in-Some.ensures place it at)
