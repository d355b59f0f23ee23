use Rattle.std.proofs.Common.{refl}
use Rattle.kn_policy.specs.Policy.{policy_at}
use Rattle.kn_throttle.proofs.Coming.{kept_new}
use Rattle.kn_throttle.proofs.throttle.Throttle.new.Goals as goal

pub invariant_of-result : goal.invariant_of-result
invariant_of-result c =
    rw (← c.copied.view_is) (kept_new _ _ _ _ _ _ _ c.in_ok-table.ensures c.in_ok-pods.ensures c.in_ok-seats.ensures c.in_ok-candidates.ensures c.new-breaker.ensures c.new-policy.ensures)

pub returns : goal.returns
unfolding policy_at
returns c = rw (c.new-policy.ensures, c.in_ok-table.ensures, c.in_ok-pods.ensures, c.in_ok-copied.ensures) refl
