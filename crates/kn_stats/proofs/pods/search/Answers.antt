use Rattle.std.proofs.Common.{rules}
use Rattle.std.proofs.lemmas.List.Sorted.{answers_always}
use Rattle.kn_stats.proofs.Search.{search_ends}
use Rattle.kn_stats.proofs.pods.search.Goals as goal

-- the closure gives a pod's number
pub returns : goal.returns
returns c =
    let facts = c.binary_search_by_key.ensures in
    search_ends c.args.pods.now c.requires c.args.p _ facts.bound (facts.position (λ pod. pod.number) (answers_always _ _ _ (λ f a r g called. search rules)))
