use Rattle.std.proofs.Common.{◌∙◌, true, false, sym}
use Rattle.kn_throttle.specs.Kept.{can_leave}
use Rattle.kn_throttle.proofs.Walking.{at_one, nowhere_none}
use Rattle.kn_throttle.proofs.throttle.Throttle.pod_to_leave.Goals as goal

pub returns-in-Nowhere : goal.returns-in-Nowhere
returns-in-Nowhere c =
    let k = c.self.invariant in
    rw (← c.self.view_is) (nowhere_none (can_leave c.self.inside.table) c.self.inside.pods (rw c.in-Nowhere.is at k.leaves))

pub returns-then-can_leave : goal.returns-then-can_leave
returns-then-can_leave c =
    let k = c.self.invariant in
    rw (← c.self.view_is) (at_one (can_leave c.self.inside.table) c.self.inside.pods c.in-At.p true k.sound.order.pods (rw c.in-At.is at k.leaves) (rw (← c.self.view_is) at (sym c.can_leave.ensures ∙ c.if-can_leave.true)))

pub returns-else-can_leave : goal.returns-else-can_leave
returns-else-can_leave c =
    let k = c.self.invariant in
    rw (← c.self.view_is) (at_one (can_leave c.self.inside.table) c.self.inside.pods c.in-At.p false k.sound.order.pods (rw c.in-At.is at k.leaves) (rw (← c.self.view_is) at (sym c.can_leave.ensures ∙ c.if-can_leave.false)))
