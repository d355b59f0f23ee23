-- The digits of words of eight bytes.
use Rattle.core.specs.Prelude.{◌≡◌, ℕ, ◌+◌, ◌*◌, ◌^◌, ◌<◌, ◌≤◌, leb, List, [], ◌∷◌, ◌++◌, length, get_or, map, take, drop, bit_and}
use mathlib.Core.Path.{refl, sym, ap, ◌∙◌}
use native.Mathlib.Nat.{mul-le-mul_left}
use native.Mathlib.Omega.{arith}
use lib.Bits.{and_mask}
use lib.Dec.{leb→le}
use lib.Lanes.{number_l}
use lib.Seq.{length-take-le, take_all, take-append-le, take-append-add, drop-append_seam}
use Rattle.core.specs.Dec2flt.Digits.{less_zero, IsEightBytes}
use Rattle.core.specs.Float.Numeral.{digits_len}
use Rattle.core.specs.Str.Parse.{digits_value}
use Rattle.core.proofs.dec2flt.DigitsLemmas.{digits_len-take, digits_value-append, every_below}

-- a 0 in front leaves the lowest lane empty
pub empty_lane : (xs : List ℕ) → IsEightBytes xs → get_or xs 0 0 ≡ 48 → bit_and (number_l 256 (map less_zero xs)) 0xff ≡ 0
empty_lane [] eight is = absurd (omega arith)
empty_lane (x ∷ xs) eight is = and_mask (number_l 256 (map less_zero (x ∷ xs))) 8 ∙ rw is (omega arith)

-- eight digits and those of a word behind them
pub joined : (xs ys : List ℕ) (high len low : ℕ) → length xs ≡ 8 → length ys ≡ 8 → digits_len xs ≡ 8 → high ≡ digits_value 10 xs → len < 8 → len ≡ digits_len ys → low ≡ digits_value 10 (take len ys)
    → (8 + len ≡ digits_len (xs ++ ys)) × (high * 10 ^ len + low ≡ digits_value 10 (take (8 + len) (xs ++ ys)))
joined xs ys high len low first second all is_high few stop is_low =
    let front : take 8 (xs ++ ys) ≡ xs = take-append-le 8 xs ys (omega arith) ∙ take_all 8 xs (omega arith) in
    let behind : drop 8 (xs ++ ys) ≡ ys = ap (λ k. drop k (xs ++ ys)) (sym first) ∙ drop-append_seam xs ys in
    let taken : take (8 + len) (xs ++ ys) ≡ xs ++ take len ys = ap (λ k. take (k + len) (xs ++ ys)) (sym first) ∙ take-append-add xs ys len in
    let long : length (take len ys) ≡ len = length-take-le len ys (omega arith) in
    (sym (digits_len-take (xs ++ ys) 8 ∙ rw (front, all, behind, ← stop)), rw (taken, digits_value-append, long, is_high, is_low))

-- a power that the digits of the word behind give
pub ten_to_few : (n : ℕ) → n < 8 → 10 ^ n ≤ 10000000
ten_to_few n few = leb→le _ _ (every_below (λ k. leb (10 ^ k) 10000000) 8 tt n few)

pub scaled_fits : (high n : ℕ) → high < 2 ^ 32 → n < 8 → high * 10 ^ n ≤ 2 ^ 32 * 10000000
scaled_fits high n small few = omega (arith, mul-le-mul_left high (ten_to_few n few))

-- eight digits with a space behind them
pub alone : (xs ys : List ℕ) (n : ℕ) → IsEightBytes xs → IsEightBytes ys → bit_and (number_l 256 ys) 0xff ≡ 32 → digits_len xs ≡ 8 → n ≡ digits_value 10 xs
    → (8 ≡ digits_len (xs ++ ys)) × (n ≡ digits_value 10 (take 8 (xs ++ ys)))
alone xs [] n hx hy space all is = absurd (omega (arith, hy.0))
alone xs (y ∷ ys) n hx hy space all is =
    let low : y ≡ 32 = omega (arith, space, and_mask (number_l 256 (y ∷ ys)) 8, hy.1.0) in
    let none : digits_len (y ∷ ys) ≡ 0 = rw low refl in
    let both = joined xs (y ∷ ys) n 0 0 hx.0 hy.0 all is (omega arith) (sym none) refl in
    (both.0, omega arith ∙ both.1)
