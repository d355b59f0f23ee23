use Rattle.std.proofs.Common.{◌≡◌, ◌<◌, ℕ, List, false}
use Rattle.std.specs.Prelude.{nat_lt}
use Rattle.std.specs.List.{count_by}
use Rattle.kn_waits.specs.Waits.{AreWaits, is_enough}
use Rattle.kn_waits.proofs.waits.Waits.percentile.Given as goal

abbrev pub invariant-loop-w : goal.invariant-loop-w
invariant-loop-w l = record {
  waited : (ws : List ℕ) → AreWaits l.fn.self ws → l.waited ≡ count_by (λ v. nat_lt v l.w) ws;
  before : (ws : List ℕ) → AreWaits l.fn.self ws → (v : ℕ) → v < l.w → is_enough l.q l.n ws v ≡ false;
}
