use Rattle.std.proofs.Common.{sym, ◌∙◌}
use Rattle.kn_throttle.proofs.Gauges.{queued-kept, queued-trace}
use Rattle.kn_throttle.proofs.throttle.Throttle.count_queued.Goals as goal

pub returns-clause-value : goal.returns-clause-value
returns-clause-value c = c.queued_at_all.ensures ∙ rw (← c.self.view_is) (queued-kept _ _ _ _ _ _ _ _ c.self.invariant)

pub returns-clause-queued : goal.returns-clause-queued
returns-clause-queued c = λ d h.
    let a = c.args.self.now.admission in
    let views = c.append_laws.ensures.views c.args.self.now.spec a d h in
    returns-clause-value c ∙ sym (queued-trace d a.live a.pods views.pods views.queued)
