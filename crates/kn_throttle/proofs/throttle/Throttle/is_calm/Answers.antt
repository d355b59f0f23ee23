use Rattle.std.proofs.Common.{sym}
use Rattle.kn_throttle.specs.Kept.{can_run}
use Rattle.kn_throttle.proofs.Dispatched.{calm_where}
use Rattle.kn_throttle.proofs.Walking.{nowhere_none}
use Rattle.kn_throttle.proofs.throttle.Throttle.is_calm.Goals as goal

pub returns-in-Nowhere : goal.returns-in-Nowhere
returns-in-Nowhere c = λ e.
    let k = c.self.invariant in
    let none = sym (nowhere_none (can_run c.self.inside.table) c.self.inside.pods (rw c.in-Nowhere.is at k.runs)) in
    rw (← c.self.view_is) (calm_where c.walk_laws.ensures.promoted c.self.inside.spec _ k.sound.order.pods none)
