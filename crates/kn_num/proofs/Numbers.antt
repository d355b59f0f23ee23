-- The number that a few digits write.
use Rattle.std.proofs.Common.{ℕ, ◌<◌, ◌≤◌, List, [], ◌∷◌, length, get_or, Fits, w8, arith}
use Rattle.kn_num.specs.Number.{decimal_value}

-- three bytes write less than 100,000
pub short_value : (digits : List ℕ) → length digits ≤ 3 → ((k : ℕ) → Fits w8 (get_or digits k 0)) → decimal_value digits < 100000
short_value [] short bytes = omega arith
short_value (a ∷ []) short bytes = omega (arith, bytes 0)
short_value (a ∷ b ∷ []) short bytes = omega (arith, bytes 0, bytes 1)
short_value (a ∷ b ∷ c ∷ []) short bytes = omega (arith, bytes 0, bytes 1, bytes 2)
short_value (a ∷ b ∷ c ∷ d ∷ ds) short bytes = absurd (omega arith)
