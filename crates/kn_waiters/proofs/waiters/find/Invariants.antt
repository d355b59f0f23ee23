use Rattle.std.proofs.Common.{◌≢◌, ◌≤◌, ◌<◌, ℕ, get_or}
use Rattle.kn_waiters.specs.declared.waiters.Waiter.{Waiter}
use Rattle.kn_waiters.proofs.waiters.find.Given as goal

abbrev pub invariant-loop-place : goal.invariant-loop-place
invariant-loop-place l = record {
  low : l.first ≤ l.place;
  passed : (k : ℕ) (d : Waiter) → l.first ≤ k → k < l.place → (get_or l.waiting k d).pass ≢ l.pass;
}
