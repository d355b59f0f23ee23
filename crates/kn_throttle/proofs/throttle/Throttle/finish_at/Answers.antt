use Rattle.std.proofs.Common.{◌∙◌}
use Rattle.std.specs.Option.{is_some}
use Rattle.kn_event.specs.declared.event.Act.TheVariants as act
use Rattle.kn_throttle.proofs.Answering.{finish-row, finish_after}
use Rattle.kn_throttle.proofs.throttle.Throttle.finish_at.Goals as goal

pub returns-clause-after : goal.returns-clause-after
returns-clause-after c = λ t ok. finish_after _ _ t c.args.r ok c.end_where.result c.end_where.ensures.ended c.end_where.ensures.kept

pub returns-clause-row : goal.returns-clause-row
returns-clause-row c = λ s d ok h.
    c.append_laws.ensures.row s c.args.self.now.admission d (act.Finish c.args.r ok) h ∙ finish-row s _ _ c.args.r ok (is_some c.end_where.result) c.end_where.ensures.value

pub returns-clause-stands : goal.returns-clause-stands
returns-clause-stands c = λ d t ok h.
    rw (returns-clause-after c t ok) (c.append_laws.ensures.act c.args.self.now.spec c.args.self.now.admission d t (act.Finish c.args.r ok) _ h (returns-clause-row c c.args.self.now.spec d ok h))

pub returns-clause-stand : goal.returns-clause-stand
returns-clause-stand c = λ d h.
    let views = c.append_laws.ensures.views c.args.self.now.spec c.args.self.now.admission d h in
    rw (views.stand c.args.r) c.end_where.ensures.stand

pub returns-clause-proxied : goal.returns-clause-proxied
returns-clause-proxied c = λ d h.
    let views = c.append_laws.ensures.views c.args.self.now.spec c.args.self.now.admission d h in
    rw (views.proxied c.args.r) c.end_where.ensures.proxied
