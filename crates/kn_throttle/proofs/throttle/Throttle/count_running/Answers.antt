use Rattle.std.proofs.Common.{◌≡◌, ◌-◌, sym, ◌∙◌, arith}
use Rattle.kn_throttle.specs.Gauges.{count_running_in}
use Rattle.kn_throttle.proofs.Gauges.{all-kept, held-kept, queued-kept, running-trace}
use Rattle.kn_throttle.proofs.throttle.Throttle.count_running.Goals as goal

pub overflow_sub-result : goal.overflow_sub-result
overflow_sub-result c =
    let held = held-kept _ _ _ _ _ _ _ _ c.self.invariant c.waiting.result c.waiting.ensures in
    omega (arith, held, c.len.ensures, all-kept _ _ _ _ _ _ _ _ c.self.invariant)

pub overflow_sub-result-2 : goal.overflow_sub-result-2
overflow_sub-result-2 c =
    let held = held-kept _ _ _ _ _ _ _ _ c.self.invariant c.waiting.result c.waiting.ensures in
    let queued = c.queued_at_all.ensures ∙ queued-kept _ _ _ _ _ _ _ _ c.self.invariant in
    omega (arith, held, queued, c.len.ensures, all-kept _ _ _ _ _ _ _ _ c.self.invariant)

pub returns-clause-value : goal.returns-clause-value
returns-clause-value c =
    let held = held-kept _ _ _ _ _ _ _ _ c.self.invariant c.waiting.result c.waiting.ensures in
    let queued = c.queued_at_all.ensures ∙ queued-kept _ _ _ _ _ _ _ _ c.self.invariant in
    let at : c.len.result - c.waiting.result - c.queued_at_all.result ≡ count_running_in c.self.inside.table c.self.inside.pods =
    omega (arith, held, queued, c.len.ensures, all-kept _ _ _ _ _ _ _ _ c.self.invariant) in
    rw (← c.self.view_is) at

pub returns-clause-running : goal.returns-clause-running
returns-clause-running c = λ d h.
    let a = c.args.self.now.admission in
    let views = c.append_laws.ensures.views c.args.self.now.spec a d h in
    returns-clause-value c ∙ sym (running-trace d a.live a.pods views.pods views.count_running_at)
