use Rattle.std.proofs.Common.{sym, ap, subst, arith}
use Rattle.kn_stats.specs.Stands.{IsStatsOf, StatsState}
use Rattle.kn_stats.proofs.Steps.{stands_advanced, within_advanced}
use Rattle.kn_stats.proofs.stats.Stats.advance.Goals as goal

pub invariant_of-self : goal.invariant_of-self
invariant_of-self c =
    let time = ap (λ (s : StatsState). s.time) c.self.view_is in
    record {
      within = rw c.advance.ensures.state (within_advanced _ c.args.to (omega (arith, time, c.requires)) c.self.invariant.within);
      room = c.self.invariant.room;
    }

pub returns-clause-stands : goal.returns-clause-stands
returns-clause-stands c = λ cs gone is.
    let time = ap (λ (s : StatsState). s.time) c.self.view_is in
    rw c.advance.ensures.state
    (stands_advanced _ c.args.to (omega (arith, time, c.requires)) c.self.invariant.within cs gone (subst (λ s. IsStatsOf s cs gone) (sym c.self.view_is) is))
