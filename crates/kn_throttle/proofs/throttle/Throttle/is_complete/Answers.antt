use Rattle.std.proofs.Common.{◌≡◌, ◌∙◌, ℕ, List, None, sym, ap}
use Rattle.kn_trace.specs.Trace.{first_of}
use Rattle.kn_throttle.specs.Kept.{can_leave}
use Rattle.kn_throttle.specs.Pods.{pods_where}
use Rattle.kn_throttle.proofs.Walking.{leaving-where, nowhere_none}
use Rattle.kn_throttle.proofs.throttle.Throttle.is_complete.Goals as goal

pub returns-in-Nowhere : goal.returns-in-Nowhere
returns-in-Nowhere c = λ d t h e.
    let k = c.self.invariant in
    let a = c.args.self.now.admission in
    let none : first_of (pods_where (can_leave a.live) a.pods) ≡ None = rw (← c.self.view_is) (sym (nowhere_none (can_leave c.self.inside.table) c.self.inside.pods (rw c.in-Nowhere.is at k.leaves))) in
    c.walk_laws.ensures.removed c.args.self.now.spec a d t h (ap (λ (l : List ℕ). first_of l) (leaving-where a) ∙ none)
