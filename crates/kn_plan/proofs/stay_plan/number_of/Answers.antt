use Rattle.std.proofs.Common.{ap}
use Rattle.std.specs.Prelude.{Err}
use Rattle.kn_plan.specs.declared.plan_error.PlanError.{PlanError}
use Rattle.kn_plan.proofs.StayFaults.{number_wrong}
use Rattle.kn_plan.proofs.stay_plan.number_of.Goals as goal

pub returns-in-Err-clause-wrong : goal.returns-in-Err-clause-wrong
returns-in-Err-clause-wrong c =
    number_wrong _ c.args.option c.in_ok-text.text.now c.least.result c.most.result c.in-Err.error c.wrong.result
    c.requires c.in_ok-text.ensures.value c.least.ensures c.most.ensures c.wrong.ensures.usage c.wrong.ensures.memory
    (λ e. c.in-Err.ensures.usage (ap (λ (x : PlanError). Err x) e))
