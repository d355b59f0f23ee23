use Rattle.std.proofs.Common.{sym, subst, arith}
use Rattle.kn_stats.specs.Stands.{IsIdle, IsStatsOf}
use Rattle.kn_stats.proofs.Steps.{stands_without, within_without}
use Rattle.kn_stats.proofs.stats.Stats.pod_leaves.Goals as goal

pub invariant_of-self : goal.invariant_of-self
invariant_of-self c =
    let none = subst (λ s. IsIdle c.args.p s) (sym c.self.view_is) c.requires in
    record {
      within = rw c.remove.ensures.without (within_without _ c.args.p c.self.invariant.within none);
      room = omega (arith, c.remove.ensures.capacity, c.self.invariant.room);
    }

pub returns-clause-stands : goal.returns-clause-stands
returns-clause-stands c = λ cs gone is.
    rw c.remove.ensures.without (stands_without _ c.args.p cs gone (subst (λ s. IsStatsOf s cs gone) (sym c.self.view_is) is))
