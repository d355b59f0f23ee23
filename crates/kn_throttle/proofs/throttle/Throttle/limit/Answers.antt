use Rattle.std.proofs.Common.{◌≡◌, ap, sym, ◌∙◌}
use Rattle.kn_seats.specs.Pods.{pod_at}
use Rattle.kn_seats.specs.Seats as seats
use Rattle.kn_throttle.specs.Gauges.{limit_in}
use Rattle.kn_throttle.proofs.Ended.{pod_there}
use Rattle.kn_throttle.proofs.Gauges.{limit-seat, limit-trace}
use Rattle.kn_throttle.proofs.throttle.Throttle.limit.Goals as goal

pub limit-requires : goal.limit-requires
limit-requires c = pod_there _ _ _ _ _ _ _ _ c.args.p c.self.invariant (rw (← c.self.view_is) at c.requires)

pub returns-clause-value : goal.returns-clause-value
returns-clause-value c =
    let there = rw (← c.self.view_is) at c.requires in
    let at : c.limit.result ≡ limit_in c.args.p c.self.inside.pods =
    c.limit.ensures ∙ (ap (λ (t : seats.State). (pod_at c.args.p t.pods).limit) c.self.invariant.seats ∙ limit-seat c.self.inside.table c.args.p c.self.inside.pods there) in
    rw (← c.self.view_is) at

pub returns-clause-limit : goal.returns-clause-limit
returns-clause-limit c = λ d h.
    let views = c.append_laws.ensures.views c.args.self.now.spec c.args.self.now.admission d h in
    returns-clause-value c ∙ sym (limit-trace d c.args.self.now.admission.live c.args.p c.args.self.now.admission.pods views.limits c.requires)
