use Rattle.kn_plan.proofs.StayNone.{wrong_none}
use Rattle.kn_plan.proofs.stay_plan.stay_plan_of.Goals as goal

pub returns-in-Ok-clause-none : goal.returns-in-Ok-clause-none
returns-in-Ok-clause-none c = wrong_none _ _ c.found_plan.result c.in-Ok.ensures.found c.found_plan.ensures.wrong
