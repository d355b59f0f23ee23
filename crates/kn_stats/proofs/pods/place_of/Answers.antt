use Rattle.std.proofs.Common.{◌∙◌, ℕ, ap}
use Rattle.std.proofs.lemmas.List.{get_or_default}
use Rattle.kn_stats.specs.declared.tally.PodTally.{PodTally}
use Rattle.kn_stats.proofs.Search.{is_at}
use Rattle.kn_stats.proofs.pods.place_of.Goals as goal

-- where the hint says there is a pod of this number
pub returns-then-pods-guess : goal.returns-then-pods-guess
returns-then-pods-guess c =
    let guess : ℕ = c.get-guess.result in
    is_at c.args.p c.args.pods.now guess c.requires c.if-guess-pods.true
    (λ d. ap (λ (q : PodTally). q.number) (get_or_default c.args.pods.now guess d _ c.if-guess-pods.true) ∙ c.if-pods-guess.true)
