use Rattle.std.proofs.Common.{◌≡◌, length, ap, sym, ◌∙◌}
use Rattle.kn_seats.specs.Pods.{pod_at}
use Rattle.kn_seats.specs.Seats as seats
use Rattle.kn_record.specs.Admission.{placed_in, runs_at}
use Rattle.kn_throttle.proofs.Ended.{pod_there}
use Rattle.kn_throttle.proofs.Gauges.{running-seat}
use Rattle.kn_throttle.proofs.throttle.Throttle.running.Goals as goal

pub running-requires : goal.running-requires
running-requires c = pod_there _ _ _ _ _ _ _ _ c.args.p c.self.invariant (rw (← c.self.view_is) at c.requires)

pub returns-clause-value : goal.returns-clause-value
returns-clause-value c =
    let there = rw (← c.self.view_is) at c.requires in
    let at : c.running.result ≡ length (placed_in (runs_at c.args.p) c.self.inside.table) =
    c.running.ensures ∙ (ap (λ (t : seats.State). (pod_at c.args.p t.pods).running) c.self.invariant.seats ∙ running-seat c.self.inside.table c.args.p c.self.inside.pods there) in
    rw (← c.self.view_is) at

pub returns-clause-running : goal.returns-clause-running
returns-clause-running c = λ d h.
    let views = c.append_laws.ensures.views c.args.self.now.spec c.args.self.now.admission d h in
    returns-clause-value c ∙ sym (views.count_running_at c.args.p)
