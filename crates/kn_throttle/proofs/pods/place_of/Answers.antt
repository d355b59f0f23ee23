use Rattle.std.proofs.Common.{rules}
use Rattle.std.proofs.lemmas.List.Sorted.{answers_always}
use Rattle.kn_record.specs.declared.admission.Pod.{Pod}
use Rattle.kn_record.specs.declared.admission.Readiness.TheVariants.{Starting}
use Rattle.kn_throttle.proofs.Places.{search_none, search_there}
use Rattle.kn_throttle.proofs.pods.place_of.Goals as goal

-- the closure gives the number
pub returns-clause-there : goal.returns-clause-there
returns-clause-there c =
    let by_number = c.binary_search_by_key.ensures.position (λ (k : Pod). k.number) (answers_always _ _ _ (λ f a r g called. search rules)) in
    rw c.ok.ensures.value (search_there (λ (k : Pod). k.number) c.args.pods.now c.args.p _ by_number)

pub returns-clause-none : goal.returns-clause-none
returns-clause-none c =
    let by_number = c.binary_search_by_key.ensures.position (λ (k : Pod). k.number) (answers_always _ _ _ (λ f a r g called. search rules)) in
    let d : Pod = record { number = 0; limit = 0; readiness = Starting } in
    rw c.ok.ensures.value (search_none (λ (k : Pod). k.number) d c.args.pods.now c.args.p _ c.requires c.binary_search_by_key.ensures.bound by_number)
