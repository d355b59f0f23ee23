-- The floor of a quotient is the greatest number that fits.
use Rattle.std.proofs.Common.{ℕ, suc, ◌*◌, ◌/◌, ◌<◌, ◌≤◌, arith, ℤ, pos, negsuc, ◌*ℤ◌, ◌≤ℤ◌}
use Rattle.std.specs.Int.{int_div_euclid}
use Rattle.std.proofs.lemmas.Int.{ints}
use Rattle.std.proofs.Math.Nat.{le-div_iff_mul-le, div-lt_iff_lt-mul}

pub floor_greatest : (a q : ℤ) (b : ℕ) → 0 < b → (q *ℤ pos b) ≤ℤ a → q ≤ℤ int_div_euclid a (pos b)
floor_greatest (pos a) (pos q) b h fits = let at_most : q * b ≤ a = omega (arith, ints) in let e : q ≤ a / b = (le-div_iff_mul-le h).1 at_most in omega (arith, ints)
floor_greatest (pos a) (negsuc q) b h fits = omega (arith, ints)
floor_greatest (negsuc a) (pos q) b h fits = absurd (omega (arith, ints))
floor_greatest (negsuc a) (negsuc q) b h fits = let above : a < suc q * b = omega (arith, ints) in let e : a / b < suc q = (div-lt_iff_lt-mul h).1 above in omega (arith, ints)
