use Rattle.std.proofs.Common.{refl}
use Rattle.kn_policy.specs.Policy.{policy_at}
use Rattle.kn_policy.proofs.Found.{none_chosen}
use Rattle.kn_policy.proofs.Marking.{counted}
use Rattle.kn_policy.proofs.Words.{drawn_on}
use Rattle.kn_policy.proofs.laws.choice_laws.Goals as goal

pub returns-clause-none : goal.returns-clause-none
returns-clause-none c = none_chosen

pub returns-clause-counted : goal.returns-clause-counted
returns-clause-counted c = counted

pub returns-clause-picked : goal.returns-clause-picked
unfolding policy_at
returns-clause-picked c = λ n seed place picks p cands. rw (drawn_on n seed picks) refl
