use Rattle.std.proofs.Common.{◌≡◌, ◌∙◌, sym, Some, true, ap, arith}
use Rattle.std.specs.Duration.{as_nanos}
use Rattle.kn_front.specs.Patience.{is_by}
use Rattle.kn_front.proofs.Waits.{ends_in_time, some_time}
use Rattle.kn_front.proofs.silent_ones.SilentOnes.until_due.Goals as goal

pub returns-in-Some : goal.returns-in-Some
returns-in-Some c place one at =
    let by : is_by (Some c.in-Some.oldest) one.since ≡ true =
    sym (ap (λ o. is_by o one.since) c.in-Some.is) ∙ c.args.self.now.since place one at in
    ends_in_time c.in-Some.oldest c.args.now one (as_nanos c.args.idle) _ (grind (arith, c.saturating_sub.ensures, c.saturating_duration_since-silent.ensures)) by

pub returns-in-None : goal.returns-in-None
returns-in-None c place one at =
    some_time one.since (sym (ap (λ o. is_by o one.since) c.in-None.is) ∙ c.args.self.now.since place one at)
