use Rattle.std.proofs.Common.{sym}
use Rattle.kn_record.specs.Admission.{is_assigned_place}
use Rattle.kn_throttle.proofs.Placed.{not_placed}
use Rattle.kn_throttle.proofs.throttle.Throttle.proxied.Goals as goal

pub returns-in-None-clause-value : goal.returns-in-None-clause-value
returns-in-None-clause-value c = rw (← c.self.view_is) (sym (not_placed c.args.r is_assigned_place c.self.inside.table c.in-None.ensures.live))

pub returns-in-None-clause-proxied : goal.returns-in-None-clause-proxied
returns-in-None-clause-proxied c = λ d h.
    let views = c.append_laws.ensures.views c.args.self.now.spec c.args.self.now.admission d h in
    rw (views.proxied c.args.r) (returns-in-None-clause-value c)

pub returns-in-Some-clause-proxied : goal.returns-in-Some-clause-proxied
returns-in-Some-clause-proxied c = λ d h.
    let views = c.append_laws.ensures.views c.args.self.now.spec c.args.self.now.admission d h in
    rw (views.proxied c.args.r, c.is_assigned.ensures, ← c.self.view_is) (sym (c.in-Some.ensures.place is_assigned_place))
