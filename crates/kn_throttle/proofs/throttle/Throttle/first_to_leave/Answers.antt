use Rattle.std.proofs.Common.{◌≡◌, ◌∙◌, sym, ap}
use Rattle.kn_record.specs.declared.admission.Pod.{Pod}
use Rattle.kn_record.specs.declared.admission.Readiness.TheVariants.{Starting}
use Rattle.kn_throttle.specs.State.{State}
use Rattle.kn_throttle.specs.Kept.{can_leave}
use Rattle.kn_throttle.proofs.Walking.{found_here, further, number_at}
use Rattle.kn_throttle.proofs.throttle.Throttle.first_to_leave.Goals as goal

d0 : Pod
d0 = record { number = 0; limit = 0; readiness = Starting }

pub can_leave-requires : goal.can_leave-requires
unfolding d0
can_leave-requires c =
    let same : c.as_slice-pods.result.now ≡ c.args.self.now.admission.pods = c.as_slice-pods.ensures ∙ ap (λ (x : State). x.admission.pods) c.self.view_is in
    rw (← same) (number_at c.as_slice-pods.result.now c.loop-pod.pod-index d0 c.loop-pod-test.true)

pub loop-pod-preserved : goal.loop-pod-preserved
unfolding d0
loop-pod-preserved c =
    let k = c.self.invariant in
    let same : c.as_slice-pods.result.now ≡ c.args.self.now.admission.pods = c.as_slice-pods.ensures ∙ ap (λ (x : State). x.admission.pods) c.self.view_is in
    further (can_leave c.args.self.now.admission.live) c.as_slice-pods.result.now c.loop-pod.pod-index d0 (rw c.as_slice-pods.ensures k.sound.order.pods) c.loop-pod-test.true
    (rw (← same) at (sym c.can_leave.ensures ∙ c.if-can_leave.false)) c.loop-pod.invariant

pub returns-then-can_leave : goal.returns-then-can_leave
unfolding d0
returns-then-can_leave c =
    let k = c.self.invariant in
    let same : c.as_slice-pods.result.now ≡ c.args.self.now.admission.pods = c.as_slice-pods.ensures ∙ ap (λ (x : State). x.admission.pods) c.self.view_is in
    rw (← same) (found_here (can_leave c.args.self.now.admission.live) c.as_slice-pods.result.now c.loop-pod.pod-index d0 (rw c.as_slice-pods.ensures k.sound.order.pods) c.loop-pod-test.true
    (rw (← same) at (sym c.can_leave.ensures ∙ c.if-can_leave.true)) c.loop-pod.invariant)
