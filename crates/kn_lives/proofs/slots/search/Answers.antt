use Rattle.std.proofs.Common.{rules}
use Rattle.std.proofs.lemmas.List.Sorted.{answers_always}
use Rattle.kn_lives.proofs.Search.{hit, missed, searchable}
use Rattle.kn_lives.proofs.slots.search.Goals as goal

pub returns-in-Ok : goal.returns-in-Ok
returns-in-Ok c =
    let at = c.in-Ok.ensures.position (λ s. s.number) (answers_always _ _ _ (λ f a r q called. search rules)) in
    hit c.args.r _ _ (search rules) at

pub returns-in-Err : goal.returns-in-Err
returns-in-Err c =
    let point = c.in-Err.ensures.position (λ s. s.number) (answers_always _ _ _ (λ f a r q called. search rules)) (searchable c.args.r _ c.requires) in
    missed c.args.r _ _ point
