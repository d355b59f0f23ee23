use Rattle.kn_plan.proofs.stay_plan.plain_address.Goals as goal

pub returns-then-is_plain-clause-usage : goal.returns-then-is_plain-clause-usage
returns-then-is_plain-clause-usage c = λ e address is. c.address.ensures.usage e address is.address
