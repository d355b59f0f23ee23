use Rattle.std.proofs.Common.{rules}
use Rattle.kn_throttle.proofs.throttle.Throttle.due.Goals as goal

pub returns-clause-due : goal.returns-clause-due
returns-clause-due c = λ d h.
    let views = c.append_laws.ensures.views c.args.self.now.spec c.args.self.now.admission d h in
    rw (views.due c.args.time) (search rules)
