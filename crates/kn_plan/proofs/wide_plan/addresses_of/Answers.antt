use Rattle.kn_plan.proofs.Lists.{not_listed}
use Rattle.kn_plan.proofs.wide_plan.addresses_of.Goals as goal

pub returns-in-Err-clause-usage : goal.returns-in-Err-clause-usage
returns-in-Err-clause-usage c = λ e.
    not_listed c.args.texts.now c.loop-text.text-index _ c.loop-text-test.true (c.addresses.ensures.usage (cc))
