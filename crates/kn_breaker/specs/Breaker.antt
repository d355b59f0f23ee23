-- What contracts see of a breaker.
use Rattle.std.specs.Prelude.{ℕ, ◌+◌, ◌^◌, ◌≤◌}

-- Depth and max add up to the slots. Those in flight hold one each, and of them so many are running.
pub record State : Type 0 where
  pub depth : ℕ
  pub max : ℕ
  pub in_flight : ℕ
  pub running : ℕ
  pub capacity : ℕ

-- no more are in flight than there are slots, and none runs that isn't in flight; a capacity that was cut
-- may lie below what is running
pub record IsWithin (s : State) : Type 0 where
  pub depth : s.depth ≤ 2 ^ 32
  pub max : s.max ≤ 2 ^ 32
  pub slots : s.in_flight ≤ s.depth + s.max
  pub running : s.running ≤ s.in_flight
  pub capacity : s.capacity ≤ s.max
