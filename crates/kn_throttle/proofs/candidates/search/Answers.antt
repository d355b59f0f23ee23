use Rattle.std.proofs.Common.{rules}
use Rattle.std.proofs.lemmas.List.Sorted.{answers_always}
use Rattle.kn_trace.specs.declared.candidate.Cand.{Cand}
use Rattle.kn_throttle.proofs.Places.{search_none, search_there}
use Rattle.kn_throttle.proofs.candidates.search.Goals as goal

-- the closure gives the number
pub returns-clause-there : goal.returns-clause-there
returns-clause-there c =
    let by_number = c.binary_search_by_key.ensures.position (λ (k : Cand). k.pod) (answers_always _ _ _ (λ f a r g called. search rules)) in
    rw c.ok.ensures.value (search_there (λ (k : Cand). k.pod) c.args.cands.now c.args.p _ by_number)

pub returns-clause-none : goal.returns-clause-none
returns-clause-none c =
    let by_number = c.binary_search_by_key.ensures.position (λ (k : Cand). k.pod) (answers_always _ _ _ (λ f a r g called. search rules)) in
    let d : Cand = record { pod = 0; limit = 0; running = 0 } in
    rw c.ok.ensures.value (search_none (λ (k : Cand). k.pod) d c.args.cands.now c.args.p _ c.requires c.binary_search_by_key.ensures.bound by_number)
