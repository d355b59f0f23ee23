use Rattle.std.proofs.Common.{◌∙◌}
use Rattle.kn_event.specs.declared.event.Act.TheVariants as act
use Rattle.kn_throttle.proofs.Answering.{cancel-row, cancel_after}
use Rattle.kn_throttle.proofs.throttle.Throttle.cancel.Goals as goal

pub returns-clause-after : goal.returns-clause-after
returns-clause-after c = λ t. rw c.is_some.ensures (cancel_after _ _ t c.args.r c.end_where.result c.end_where.ensures.ended c.end_where.ensures.kept)

pub returns-clause-row : goal.returns-clause-row
returns-clause-row c = λ s d h.
    c.append_laws.ensures.row s c.args.self.now.admission d (act.Cancel c.args.r) h ∙ cancel-row s _ _ c.args.r c.is_some.result (c.is_some.ensures ∙ c.end_where.ensures.value)

pub returns-clause-stands : goal.returns-clause-stands
returns-clause-stands c = λ d t h.
    rw (returns-clause-after c t) (c.append_laws.ensures.act c.args.self.now.spec c.args.self.now.admission d t (act.Cancel c.args.r) _ h (returns-clause-row c c.args.self.now.spec d h))
