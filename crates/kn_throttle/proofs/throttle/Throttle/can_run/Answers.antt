use Rattle.std.proofs.Common.{◌≡◌, ◌∙◌, refl, sym}
use Rattle.kn_seats.specs.Pods.{has_free_seat, pod_at}
use Rattle.kn_throttle.proofs.Ended.{pod_there}
use Rattle.kn_throttle.proofs.Walking.{no_queue, run-seat, some_queue}
use Rattle.kn_throttle.proofs.throttle.Throttle.can_run.Goals as goal

pub load-load-requires : goal.load-load-requires
load-load-requires c = pod_there _ _ _ _ _ _ _ _ c.args.p c.self.invariant (rw (← c.self.view_is) at c.requires)

pub returns-then-load-eq0 : goal.returns-then-load-eq0
returns-then-load-eq0 c =
    let there = rw (← c.self.view_is) at c.requires in
    let pod = pod_at c.args.p c.self.inside.seats.pods in
    rw (← c.self.view_is) (sym (run-seat _ _ _ _ _ _ _ _ c.args.p c.self.invariant there ∙ no_queue (has_free_seat pod) pod.queued (sym c.load-load.ensures.queued ∙ c.if-load-eq0.true)))

pub returns : goal.returns
returns c =
    let there = rw (← c.self.view_is) at c.requires in
    let pod = pod_at c.args.p c.self.inside.seats.pods in
    let free : c.is_free.result ≡ has_free_seat pod = c.is_free.ensures ∙ rw (c.load-load.ensures.limit, c.load-load.ensures.running) refl in
    rw (← c.self.view_is) (free ∙ some_queue (has_free_seat pod) pod.queued (λ e. c.if-load-eq0.false (c.load-load.ensures.queued ∙ e)) ∙ sym (run-seat _ _ _ _ _ _ _ _ c.args.p c.self.invariant there))
