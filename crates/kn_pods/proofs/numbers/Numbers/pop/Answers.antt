use Rattle.std.proofs.Common.{◌≡◌, ℕ, List, Option, None, Some, IfSome, ◌++◌, option_to_list, sym, ap, ◌∙◌, subst}
use Rattle.kn_record.specs.Views.{others}
use Rattle.kn_record.specs.Order.{Ascend}
use Rattle.kn_pods.proofs.Places.{without_last}
use Rattle.kn_pods.proofs.numbers.Numbers.pop.Goals as goal

by : (old new : List ℕ) (popped : Option ℕ) → Ascend old → old ≡ new ++ option_to_list popped → IfSome popped (λ p. new ≡ others p old)
by old new None rise e = tt
by old new (Some p) rise e = sym (ap (others p) e ∙ without_last p new (subst Ascend e rise))

pub returns-clause-without : goal.returns-clause-without
returns-clause-without c = rw (← c.self.view_is) (by c.self.inside.items.items c.pop.new.self.items c.pop.result c.self.invariant c.pop.ensures.items)
