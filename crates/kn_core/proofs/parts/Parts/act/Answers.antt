use Rattle.std.proofs.Common.{refl, inl, inr}
use Rattle.kn_trace.specs.Events.{act_row}
use Rattle.kn_core.proofs.parts.Parts.act.Goals as goal

pub returns-in-Finish-clause-adds : goal.returns-in-Finish-clause-adds
returns-in-Finish-clause-adds c = rw (c.said-in-Finish.ensures.row, c.row-in-Finish.ensures) (c.finish.ensures.adds c.args.e.now.time)

pub returns-in-Cancel-clause-adds : goal.returns-in-Cancel-clause-adds
returns-in-Cancel-clause-adds c = rw c.said-in-Cancel.ensures.row (c.cancel.ensures.adds c.args.e.now.time)

pub returns-in-Ready-clause-adds : goal.returns-in-Ready-clause-adds
returns-in-Ready-clause-adds c = rw c.said-in-Ready.ensures.row (c.ready.ensures.adds c.args.e.now.time)

pub returns-in-Limit-clause-adds : goal.returns-in-Limit-clause-adds
returns-in-Limit-clause-adds c = rw c.said-in-Limit.ensures.row (c.limit.ensures.adds c.args.e.now.time)

pub returns-in-Lost-clause-adds : goal.returns-in-Lost-clause-adds
returns-in-Lost-clause-adds c = rw c.said-in-Lost.ensures.row (c.lose_pod.ensures.adds c.args.e.now.time)

pub returns-in-Pass-clause-row : goal.returns-in-Pass-clause-row
unfolding act_row
returns-in-Pass-clause-row c = λ s d h. elim c.in-Pass.is [ inl e ↦ rw e refl | inr e ↦ rw e refl ]
