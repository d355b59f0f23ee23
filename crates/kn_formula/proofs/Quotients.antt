-- So few pods bear an average that their number fits.
use Rattle.std.proofs.Common.{◌≤◌, ◌<◌, ◌*◌, ◌+◌, ℕ, lit<, arith}
use Rattle.std.specs.Int.{div_ceil}
use Rattle.std.proofs.Math.Nat.{mul-le-mul, mul-pos, lt_of_lt_of_le, lt_of_mul-lt-mul_right}
use Rattle.std.proofs.lemmas.Grind.{div_ceil_times}

-- an average of at most 1,000,000 at a target of at least 0.01
pub pods_most : (num den target : ℕ) → 0 < den → num ≤ 1000000 * den → 1000000 ≤ target → div_ceil (num * 100000000) (den * target) ≤ 100000000
pods_most num den target positive value least =
    let some : den * 1000000 ≤ den * target = mul-le-mul (omega arith) least in
    let enough : num * 100000000 ≤ 100000000 * (den * target) = omega (arith, some, value) in
    let times = div_ceil_times (num * 100000000) (den * target) (mul-pos positive (lt_of_lt_of_le (lit< tt) least)) in
    let below : div_ceil (num * 100000000) (den * target) * (den * target) < (100000000 + 1) * (den * target) = omega (arith, times.1, enough) in
    let fits : div_ceil (num * 100000000) (den * target) < 100000000 + 1 = lt_of_mul-lt-mul_right (den * target) below in omega (arith, fits)
