use Rattle.std.proofs.Common.{length, ap, sym, ◌∙◌}
use Rattle.kn_throttle.proofs.Gauges.{held-kept}
use Rattle.kn_throttle.proofs.throttle.Throttle.count_held.Goals as goal

pub returns-clause-value : goal.returns-clause-value
returns-clause-value c = rw (← c.self.view_is) (held-kept _ _ _ _ _ _ _ _ c.self.invariant c.waiting.result c.waiting.ensures)

pub returns-clause-held : goal.returns-clause-held
returns-clause-held c = λ d h.
    let views = c.append_laws.ensures.views c.args.self.now.spec c.args.self.now.admission d h in
    returns-clause-value c ∙ sym (ap length views.held)
