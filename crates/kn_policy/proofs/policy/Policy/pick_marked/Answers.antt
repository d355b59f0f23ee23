use Rattle.std.proofs.Common.{sym}
use Rattle.kn_policy.proofs.policy.Policy.pick_marked.Goals as goal

pub returns-in-Some-clause-chosen : goal.returns-in-Some-clause-chosen
returns-in-Some-clause-chosen c = λ seed picks at. sym ((c.in-Some.ensures.chosen seed picks at).1 _)

pub returns-in-Some-clause-picked : goal.returns-in-Some-clause-picked
returns-in-Some-clause-picked c = c.in-Some.ensures.picked _

pub returns-in-None-clause-chosen : goal.returns-in-None-clause-chosen
returns-in-None-clause-chosen c = λ seed picks at. sym (c.in-None.ensures.chosen seed picks at)
