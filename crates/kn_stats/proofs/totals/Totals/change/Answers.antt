use Rattle.std.proofs.Common.{[], ◌∷◌, ◌++◌, sym, subst}
use Rattle.kn_stats.specs.Changes.{timed}
use Rattle.kn_stats.specs.Totals.{IsTotalsOf}
use Rattle.kn_stats.proofs.Counted.{totals_counted}
use Rattle.kn_stats.proofs.totals.Totals.change.Goals as goal

pub returns-clause-stands : goal.returns-clause-stands
returns-clause-stands c = λ cs is.
    subst (λ t. IsTotalsOf t (cs ++ timed c.args.self.now.time c.args.c ∷ [])) (sym c.count.ensures.state)
    (totals_counted c.args.self.now c.count.ensures.bounded c.args.c c.requires cs is)
