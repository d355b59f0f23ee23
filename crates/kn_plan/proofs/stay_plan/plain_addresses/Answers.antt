use Rattle.kn_plan.proofs.stay_plan.plain_addresses.Goals as goal

pub returns-in-Err-clause-usage : goal.returns-in-Err-clause-usage
returns-in-Err-clause-usage c = λ e hosts are. c.in-Err.ensures.usage e hosts are.addresses
