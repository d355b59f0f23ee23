-- A difference of two products, divided in 128 bits, is the exact quotient, and fits 64.
use Rattle.std.proofs.Common.{◌≡◌, refl, sym, subst, ◌∙◌, ◌≤◌, ◌<◌, ◌+◌, ◌*◌, ◌^◌, ◌/◌, ℕ, arith, w64, ℤ, pos, negsuc, ◌-ℤ◌, FitsSigned, to_z, of_z}
use Rattle.std.proofs.Math.Nat.{div-le_of_le-mul, mul-le-mul}
use Rattle.std.proofs.lemmas.Int.{ints}
use Rattle.std.specs.Int.{int_div_euclid, w128}

-- ---- bounds of the two sides

pub seats_most : (ready total den : ℕ) → ready ≤ 500 → total ≤ 1000000000 → ready * total * den ≤ 2000000000 * (1000 * den)
seats_most ready total den few small =
    let pods : ready * total ≤ 500 * 1000000000 = mul-le-mul few small in
    let all : ready * total * den ≤ 500 * 1000000000 * den = mul-le-mul pods (omega arith) in omega (arith, all)

pub taken_most : (capacity den num : ℕ) → capacity ≤ 1000000000 → num ≤ 1000000 * den → capacity * den + 1000 * num ≤ 2000000000 * (1000 * den)
taken_most capacity den num small value =
    let all : capacity * den ≤ 1000000000 * den = mul-le-mul small (omega arith) in omega (arith, all, value)

-- ---- the quotient

fits_by : (z : ℤ) (a b d q : ℕ) → z ≡ pos a -ℤ pos b → a ≤ d * q → b ≤ d * q → q < 2 ^ 62 → FitsSigned w64 (int_div_euclid z (pos d))
fits_by (pos k) a b d q e ha hb hq =
    let small : k / d ≤ q = div-le_of_le-mul d (omega (arith, ints, e, ha)) in omega (arith, ints, small, hq)
fits_by (negsuc k) a b d q e ha hb hq =
    let small : k / d ≤ q = div-le_of_le-mul d (omega (arith, ints, e, hb)) in omega (arith, ints, small, hq)

-- as i128 computes it
abbrev as_computed : ℕ → ℕ → ℕ → ℤ
as_computed a b d = int_div_euclid (to_z w128 (of_z w128 (to_z w128 a -ℤ to_z w128 b))) (to_z w128 d)

pub floor_is : (a b d : ℕ) → a < 2 ^ 100 → b < 2 ^ 100 → d < 2 ^ 100 → as_computed a b d ≡ int_div_euclid (pos a -ℤ pos b) (pos d)
floor_is a b d ha hb hd =
    let ea : to_z w128 a ≡ pos a = omega (arith, ints, ha) in
    let eb : to_z w128 b ≡ pos b = omega (arith, ints, hb) in
    let ed : to_z w128 d ≡ pos d = omega (arith, ints, hd) in
    let em : to_z w128 (of_z w128 (pos a -ℤ pos b)) ≡ pos a -ℤ pos b = omega (arith, ints, ha, hb) in
    simp (ea, eb, ed, em) refl

pub floor_fits : (r : ℤ) (a b d q : ℕ) → r ≡ as_computed a b d → a < 2 ^ 100 → b < 2 ^ 100 → d < 2 ^ 100 → a ≤ d * q → b ≤ d * q → q < 2 ^ 62 → FitsSigned w64 r
floor_fits r a b d q e ha hb hd la lb hq =
    subst (λ z. FitsSigned w64 z) (sym (e ∙ floor_is a b d ha hb hd)) (fits_by (pos a -ℤ pos b) a b d q refl la lb hq)

-- ---- the cast of it

pub cast_fits : (r : ℤ) → FitsSigned w64 r → FitsSigned w64 (to_z w128 (of_z w128 r))
cast_fits r h = omega (arith, ints, h)

pub cast_is : (r : ℤ) → FitsSigned w64 r → to_z w64 (of_z w64 (to_z w128 (of_z w128 r))) ≡ r
cast_is r h = omega (arith, ints, h)
