use Rattle.std.proofs.Common.{refl, sym}
use Rattle.kn_record.specs.Views.{is_pod_where, pod_numbered}
use Rattle.kn_throttle.specs.Kept.{can_run}
use Rattle.kn_throttle.proofs.Running.{first_is}
use Rattle.kn_throttle.proofs.Walking.{at_one, nowhere_none}
use Rattle.kn_throttle.proofs.throttle.Throttle.pod_to_run.Goals as goal

pub returns-in-Nowhere-clause-none : goal.returns-in-Nowhere-clause-none
returns-in-Nowhere-clause-none c =
    let k = c.self.invariant in
    rw (← c.self.view_is) (sym (nowhere_none (can_run c.self.inside.table) c.self.inside.pods (rw c.in-Nowhere.is at k.runs)))

pub returns-in-At-clause-first : goal.returns-in-At-clause-first
returns-in-At-clause-first c =
    let k = c.self.invariant in
    let may = is_pod_where (can_run c.self.inside.table) (pod_numbered c.in-At.p c.self.inside.pods) in
    rw (← c.self.view_is) (sym (at_one (can_run c.self.inside.table) c.self.inside.pods c.in-At.p may k.sound.order.pods (rw c.in-At.is at k.runs) refl))

pub returns-in-Anywhere-clause-there : goal.returns-in-Anywhere-clause-there
returns-in-Anywhere-clause-there c =
    let k = c.self.invariant in
    rw (← c.self.view_is) (first_is (can_run c.self.inside.table) c.self.inside.pods c.first_to_run.result k.sound.order.pods (rw (← c.self.view_is) at c.first_to_run.ensures)).0

pub returns-in-Anywhere-clause-first : goal.returns-in-Anywhere-clause-first
returns-in-Anywhere-clause-first c =
    let k = c.self.invariant in
    rw (← c.self.view_is) (first_is (can_run c.self.inside.table) c.self.inside.pods c.first_to_run.result k.sound.order.pods (rw (← c.self.view_is) at c.first_to_run.ensures)).1
