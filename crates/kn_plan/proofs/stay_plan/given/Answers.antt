use Rattle.kn_plan.proofs.StayUses.{more_values, no_use, no_value, one_value}
use Rattle.kn_plan.proofs.stay_plan.given.Goals as goal

pub returns-in-None-clause-value : goal.returns-in-None-clause-value
returns-in-None-clause-value c = no_use c.args.matches.now c.args.option c.name.result.now c.name.ensures c.in-None.ensures

pub returns-in-Some-empty-clause-value : goal.returns-in-Some-empty-clause-value
returns-in-Some-empty-clause-value c =
    no_value c.args.matches.now c.args.option c.name.result.now c.in-Some-empty.field-0.now c.name.ensures c.in-Some-empty.ensures c.in-Some-empty.len_below

pub returns-in-Some-len1-clause-value : goal.returns-in-Some-len1-clause-value
returns-in-Some-len1-clause-value c =
    one_value c.args.matches.now c.args.option c.name.result.now c.in-Some-len1.field-0.now _ c.name.ensures c.in-Some-len1.ensures
    c.in-Some-len1.len_at_least c.in-Some-len1.len_below

pub returns-in-Some-clause-wrong : goal.returns-in-Some-clause-wrong
returns-in-Some-clause-wrong c =
    more_values c.args.matches.now c.args.option c.name.result.now c.in-Some.field-0.now c.name.ensures c.in-Some.ensures c.in-Some.len_at_least
