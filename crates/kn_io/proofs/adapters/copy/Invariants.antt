use Rattle.std.proofs.Common.{◌≡◌, ◌≤◌, ◌-◌, length, take}
use Rattle.kn_io.proofs.adapters.copy.Given as goal

-- so far the bytes are those of `from`
abbrev pub invariant-loop-at : goal.invariant-loop-at
invariant-loop-at l = record {
  inside : l.at ≤ length l.from;
  len : length l.to ≡ length l.from;
  copied : take l.at l.to ≡ take l.at l.from;
}

abbrev pub decreases-loop-at : goal.decreases-loop-at
decreases-loop-at l = length l.from - l.at
