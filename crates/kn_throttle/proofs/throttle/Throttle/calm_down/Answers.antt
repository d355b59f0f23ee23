use Rattle.std.proofs.Common.{◌∙◌, refl, sym, false, ◌≡◌}
use Rattle.kn_record.specs.Views.{is_pod_where, pod_numbered}
use Rattle.kn_throttle.specs.Kept.{can_run}
use Rattle.kn_throttle.proofs.Walking.{at_one, kept_ran}
use Rattle.kn_throttle.proofs.throttle.Throttle.calm_down.Goals as goal

pub invariant_of-self : goal.invariant_of-self
invariant_of-self c =
    let k = c.self.invariant in
    let may = is_pod_where (can_run c.self.inside.table) (pod_numbered c.in-At.p c.self.inside.pods) in
    let first = sym (at_one (can_run c.self.inside.table) c.self.inside.pods c.in-At.p may k.sound.order.pods (rw c.in-At.is at k.runs) refl) in
    let said : c.can_run.result ≡ may = rw (← c.self.view_is) at c.can_run.ensures in
    let stays : may ≡ false = sym said ∙ c.if-not-can_run.true in
    kept_ran _ _ _ _ _ _ _ _ k (first ∙ rw stays refl)
