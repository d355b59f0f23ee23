-- The first bytes of a word, told by a multiplication that moves them up to its end.
use Rattle.core.specs.Prelude.{◌≡◌, ℕ, zero, suc, ◌+◌, ◌-◌, ◌*◌, ◌/◌, ◌%◌, ◌^◌, ◌<◌, ◌≤◌, List, [], ◌∷◌, ◌++◌, length, take}
use mathlib.Core.Path.{refl, sym, ap, ◌∙◌}
use native.Mathlib.Nat.{mul-div_cancel, mul-mod_left, add-zero, pow-suc, zero-mod}
use native.Mathlib.Omega.{arith}
use lib.Arith.{digits_div, digits_mod, mod-mul}
use lib.Dec.{eqb, eqb→eq}
use lib.Lanes.{number_l}
use lib.Pow.{pow-add}
use lib.Seq.{take-take, take_all, take-append-le, take-append-add}
use Rattle.core.specs.Int.Digits.{AllBelowBase}
use Rattle.core.specs.Dec2flt.Digits.{IsEightBytes}
use Rattle.core.proofs.dec2flt.DigitsLemmas.{every_below}
use Rattle.core.proofs.dec2flt.LimbsLemmas.{power_pos}

-- the shift is a multiplication by a power of 256
scale_is : (n : ℕ) → 0 < n → n ≤ 8 → 1 * 2 ^ (64 - 8 * n) % 2 ^ 64 ≡ 256 ^ (8 - n)
scale_is zero some few = absurd (omega arith)
scale_is (suc n) some few = eqb→eq _ _ (every_below (λ k. eqb (1 * 2 ^ (64 - 8 * suc k) % 2 ^ 64) (256 ^ (8 - suc k))) 8 tt n (omega arith))

front : (xs : List ℕ) (n : ℕ) → AllBelowBase 256 xs → number_l 256 xs % 256 ^ n ≡ number_l 256 (take n xs)
front xs zero h = omega arith
front [] (suc n) h = zero-mod _
front (x ∷ xs) (suc n) h =
    let e : x + 256 * number_l 256 xs ≡ number_l 256 xs * 256 + x = omega arith in
    let byte : 0 < 256 = omega arith in
    rw (pow-suc, e, mod-mul _ (power_pos 256 n byte) byte, digits_div _ h.0, digits_mod _ h.0, front xs n h.1) (omega arith)

moved : (a m k : ℕ) → 0 < m → 0 < k → a * k % (m * k) ≡ a % m * k
moved a m k M K = rw (mod-mul _ M K, mul-div_cancel a K, mul-mod_left, add-zero)

cancel : (a b k : ℕ) → 0 < k → a * k ≡ b * k → a ≡ b
cancel a b k K e = sym (mul-div_cancel a K) ∙ ap (λ x. x / k) e ∙ mul-div_cancel b K

same_bytes : (n : ℕ) (xs ys : List ℕ) → AllBelowBase 256 xs → AllBelowBase 256 ys → length xs ≡ length ys → number_l 256 (take n xs) ≡ number_l 256 (take n ys) → take n xs ≡ take n ys
same_bytes zero xs ys hx hy l e = refl
same_bytes (suc n) [] [] hx hy l e = refl
same_bytes (suc n) [] (y ∷ ys) hx hy l e = absurd (omega arith)
same_bytes (suc n) (x ∷ xs) [] hx hy l e = absurd (omega arith)
same_bytes (suc n) (x ∷ xs) (y ∷ ys) hx hy l e =
    let first : x ≡ y = omega (arith, hx.0, hy.0, e) in
    let rest = same_bytes n xs ys hx.1 hy.1 (omega arith) (omega (arith, hx.0, hy.0, e)) in
    λ i. first i ∷ rest i

-- words that agree once their first n bytes are moved up have the same first n bytes
same_front : (xs ys : List ℕ) (n : ℕ) → IsEightBytes xs → IsEightBytes ys → n ≤ 8 → number_l 256 xs * 256 ^ (8 - n) % 2 ^ 64 ≡ number_l 256 ys * 256 ^ (8 - n) % 2 ^ 64 → take n xs ≡ take n ys
same_front xs ys n hx hy few e =
    let byte : 0 < 256 = omega arith in
    let low = power_pos 256 n byte in
    let high = power_pos 256 (8 - n) byte in
    let all : 256 ^ n * 256 ^ (8 - n) ≡ 2 ^ 64 = sym (pow-add 256 n (8 - n)) ∙ ap (λ k. 256 ^ k) {y = 8} (omega arith) in
    let each : (zs : List ℕ) → IsEightBytes zs → number_l 256 zs * 256 ^ (8 - n) % 2 ^ 64 ≡ number_l 256 (take n zs) * 256 ^ (8 - n) =
    λ zs hz. rw (← all, moved (number_l 256 zs) (256 ^ n) (256 ^ (8 - n)) low high, front zs n hz.1) refl in
    same_bytes n xs ys hx.1 hy.1 (hx.0 ∙ sym hy.0) (cancel _ _ (256 ^ (8 - n)) high (sym (each xs hx) ∙ e ∙ each ys hy))

-- of two words that are moved up alike, the one has the bytes of the other
pub same_start : (word n : ℕ) → 0 < n → n ≤ 8 → (xs ys : List ℕ) → IsEightBytes xs → IsEightBytes ys → word ≡ number_l 256 ys
    → number_l 256 xs * (1 * 2 ^ (64 - 8 * n) % 2 ^ 64) % 2 ^ 64 ≡ word * (1 * 2 ^ (64 - 8 * n) % 2 ^ 64) % 2 ^ 64 → take n xs ≡ take n ys
same_start word n some few xs ys hx hy is e =
    let scale = scale_is n some few in
    same_front xs ys n hx hy few (ap (λ k. number_l 256 xs * k % 2 ^ 64) (sym scale) ∙ e ∙ ap (λ k. word * k % 2 ^ 64) scale ∙ ap (λ w. w * 256 ^ (8 - n) % 2 ^ 64) is)

-- bytes that agree with one of eight as far as the byte behind its first ones have these too
pub few_told : (len : ℕ) (zs xs ys : List ℕ) → len < 8 → IsEightBytes xs → take (len + 1) xs ≡ take (len + 1) zs → take len (xs ++ ys) ≡ take len zs
few_told len zs xs ys few hx same =
    take-append-le len xs ys (omega (arith, hx.0)) ∙ sym (take-take len (len + 1) xs (omega arith)) ∙ ap (take len) same ∙ take-take len (len + 1) zs (omega arith)

-- eight bytes are their first eight
pub whole_told : (vs xs : List ℕ) → IsEightBytes vs → IsEightBytes xs → take 8 xs ≡ take 8 vs → xs ≡ vs
whole_told vs xs hv hx same = sym (take_all 8 xs (omega (arith, hx.0))) ∙ same ∙ take_all 8 vs (omega (arith, hv.0))

-- the first bytes of sixteen, of which there are eight or more
parts : (len : ℕ) (xs ys : List ℕ) → 8 ≤ len → IsEightBytes xs → take len (xs ++ ys) ≡ xs ++ take (len - 8) ys
parts len xs ys many hx = ap (λ k. take k (xs ++ ys)) (omega (arith, hx.0)) ∙ take-append-add xs ys (len - 8)

-- the same of sixteen
pub many_told : (len : ℕ) (vs ws xs ys : List ℕ) → 8 ≤ len → IsEightBytes vs → IsEightBytes xs → take 8 xs ≡ take 8 vs → take (len - 7) ys ≡ take (len - 7) ws
    → take len (xs ++ ys) ≡ take len (vs ++ ws)
many_told len vs ws xs ys many hv hx first second =
    let front = whole_told vs xs hv hx first in
    let back : take (len - 8) ys ≡ take (len - 8) ws =
    sym (take-take (len - 8) (len - 7) ys (omega arith)) ∙ ap (take (len - 8)) second ∙ take-take (len - 8) (len - 7) ws (omega arith) in
    parts len xs ys many hx ∙ ap (λ l. l ++ take (len - 8) ys) front ∙ ap (λ l. vs ++ l) back ∙ sym (parts len vs ws many hv)
