use Rattle.std.proofs.Common.{rules}
use Rattle.kn_throttle.proofs.throttle.Throttle.stand.Goals as goal

pub returns-then-r-self-clause-stand : goal.returns-then-r-self-clause-stand
returns-then-r-self-clause-stand c = λ d h.
    let views = c.append_laws.ensures.views c.args.self.now.spec c.args.self.now.admission d h in
    rw (views.stand c.args.r) (search rules)

pub returns-in-None-clause-stand : goal.returns-in-None-clause-stand
returns-in-None-clause-stand c = λ d h.
    let views = c.append_laws.ensures.views c.args.self.now.spec c.args.self.now.admission d h in
    rw (views.stand c.args.r) (search rules)

pub returns-in-Some-clause-stand : goal.returns-in-Some-clause-stand
returns-in-Some-clause-stand c = λ d h.
    let views = c.append_laws.ensures.views c.args.self.now.spec c.args.self.now.admission d h in
    rw (views.stand c.args.r) (search rules)
