use Rattle.std.proofs.Common.{◌≡◌, drop}
use Rattle.kn_trace.specs.Trace.{first_of}
use Rattle.kn_throttle.specs.Kept.{can_leave}
use Rattle.kn_throttle.specs.Pods.{pods_where}
use Rattle.kn_throttle.proofs.throttle.Throttle.first_to_leave.Given as goal

-- none of the pods so far
abbrev pub invariant-loop-pod : goal.invariant-loop-pod
invariant-loop-pod l = first_of (pods_where (can_leave l.self.admission.live) l.pods) ≡ first_of (pods_where (can_leave l.self.admission.live) (drop l.pod-index l.pods))
