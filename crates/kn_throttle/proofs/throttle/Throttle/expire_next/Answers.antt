use Rattle.std.proofs.Common.{◌≡◌, sym, rules, Some, None}
use Rattle.kn_trace.specs.Trace.{first_of}
use Rattle.kn_record.specs.Views.{due_in}
use Rattle.kn_throttle.proofs.throttle.Throttle.expire_next.Goals as goal

pub returns-in-Some-clause-stands : goal.returns-in-Some-clause-stands
returns-in-Some-clause-stands c = λ d h.
    let first : Some c.in-Some.r ≡ first_of (due_in c.args.self.now.spec.timeout_ms c.args.time c.args.self.now.admission.live) = search rules in
    c.walk_laws.ensures.expire c.args.self.now.spec c.args.self.now.admission d c.args.time c.in-Some.r h (sym first)

pub returns-in-None-clause-none : goal.returns-in-None-clause-none
returns-in-None-clause-none c = λ d h.
    let first : None ≡ first_of (due_in c.args.self.now.spec.timeout_ms c.args.time c.args.self.now.admission.live) = search rules in
    c.walk_laws.ensures.expired c.args.self.now.spec c.args.self.now.admission d c.args.time h (sym first)
