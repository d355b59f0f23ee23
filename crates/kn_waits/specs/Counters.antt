-- Counters of which only the first are made.
use Rattle.std.specs.Prelude.{ℕ, ◌-◌, List, ◌++◌, length, replicate}

-- so many: those that are made, and 0 for each of the rest
unfoldable pub with_zeros : ℕ → List ℕ → List ℕ
with_zeros count made = made ++ replicate (count - length made) 0
