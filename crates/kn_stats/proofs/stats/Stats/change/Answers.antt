use Rattle.std.proofs.Common.{[], ◌∷◌, ◌++◌, sym, subst}
use Rattle.kn_stats.specs.Changes.{timed}
use Rattle.kn_stats.specs.Stands.{IsStatsOf}
use Rattle.kn_stats.proofs.Steps.{stands_changed}
use Rattle.kn_stats.proofs.stats.Stats.change.Goals as goal

pub returns-clause-stands : goal.returns-clause-stands
returns-clause-stands c = λ cs gone is.
    subst (λ s. IsStatsOf s (cs ++ timed c.args.self.now.time c.args.c ∷ []) gone) (sym c.count.ensures.state)
    (stands_changed c.args.self.now c.count.ensures.within c.args.c c.requires cs gone is)
