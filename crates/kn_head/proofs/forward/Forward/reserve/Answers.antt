use Rattle.std.proofs.Common.{◌≤◌, length, sym, subst, ◌∙◌}
use Rattle.kn_head.specs.Forwarding.{forwarded}
use Rattle.kn_head.proofs.Keeping.{longer_form}
use Rattle.kn_head.proofs.forward.Forward.reserve.Goals as goal

pub returns-in-Ok-clause-either : goal.returns-in-Ok-clause-either
returns-in-Ok-clause-either c proxied =
    subst (λ n. length (forwarded c.args.head.now proxied) ≤ n) (sym (c.in-Ok.ensures.exact ∙ c.in-Some.ensures)) (longer_form c.args.head.now proxied)
