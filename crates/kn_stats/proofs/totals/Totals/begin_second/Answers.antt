use Rattle.std.proofs.Common.{◌<◌, ◌≤◌, ap, arith}
use Rattle.kn_scaling.specs.Average.{second_of}
use Rattle.kn_stats.specs.Totals.{TotalsState}
use Rattle.kn_stats.proofs.Counted.{bounded_new}
use Rattle.kn_stats.proofs.totals.Totals.begin_second.Goals as goal

pub invariant_of-self : goal.invariant_of-self
invariant_of-self c =
    let time = ap (λ (t : TotalsState). t.time) c.self.view_is in
    let new : second_of c.self.inside.clock < second_of c.args.to = omega (arith, time, c.requires) in
    let later : c.self.inside.clock ≤ c.args.to = omega (arith, new) in
    rw (c.at-self-inside.ensures, c.renew.ensures, c.renew-2.ensures) (bounded_new _ c.args.to later new c.self.invariant)
