use Rattle.std.proofs.Common.{rules}
use Rattle.std.proofs.lemmas.List.Elements.{filter_from_retain}
use Rattle.kn_lives.specs.Slots.{is_live}
use Rattle.kn_lives.proofs.slots.sweep.Goals as goal

pub returns-clause-items : goal.returns-clause-items
returns-clause-items c = filter_from_retain _ is_live (λ f x b g called. search rules) _ _ _ c.retain.ensures.filtered
