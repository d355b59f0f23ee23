-- Products that might be too great, compared part by part.
use Rattle.std.proofs.Common.{◌≡◌, ℕ, ◌+◌, ◌-◌, ◌*◌, ◌/◌, ◌%◌, ◌<◌, ◌≤◌, true, false, arith, sym, add-mul, mul_assoc, mul-add, mul-le-mul_right, div-add-mod'}
use Rattle.std.specs.Prelude.{nat_lt}
use Rattle.std.proofs.lemmas.Bool.Decides.{nat_tests}

-- fewer than a hundred times a number
pub few_times : (left n : ℕ) → left < 100 → left * n ≤ 99 * n
few_times left n few = mul-le-mul_right n (omega arith)

-- a hundred or more bear all of the rest
pub rest_borne : (left rest den : ℕ) → rest < den → 100 ≤ left → nat_lt (left * den) (100 * rest) ≡ false
rest_borne left rest den below many =
    let much : 100 * den ≤ left * den = mul-le-mul_right den many in
    grind (arith, nat_tests)

-- the rest by its hundredths
pub rest_less : (left rest den : ℕ) → nat_lt (left * (den / 100) + left * (den % 100) / 100) rest ≡ nat_lt (left * den) (100 * rest)
rest_less left rest den =
    let whole : den / 100 * 100 + den % 100 ≡ den = div-add-mod' den 100 in
    let split : left * (den / 100 * 100 + den % 100) ≡ left * (den / 100 * 100) + left * (den % 100) = mul-add left (den / 100 * 100) (den % 100) in
    let turn : left * (den / 100 * 100) ≡ left * (den / 100) * 100 = sym (mul_assoc left (den / 100) 100) in
    less (left * (den / 100)) (left * (den % 100)) rest (left * den) (parts left den split turn whole)
  where
    parts : (left den : ℕ) → left * (den / 100 * 100 + den % 100) ≡ left * (den / 100 * 100) + left * (den % 100) → left * (den / 100 * 100) ≡ left * (den / 100) * 100
        → den / 100 * 100 + den % 100 ≡ den → left * den ≡ 100 * (left * (den / 100)) + left * (den % 100)
    parts left den split turn whole = let e : left * den ≡ left * (den / 100 * 100) + left * (den % 100) = rw whole at split in omega arith

    less : (a b rest all : ℕ) → all ≡ 100 * a + b → nat_lt (a + b / 100) rest ≡ nat_lt all (100 * rest)
    less a b rest all is = grind (arith, nat_tests)

-- an average by its whole requests and the rest
pub average_more : (pods num den : ℕ) → 0 < den → pods / 100 < num / den → nat_lt (pods * den) (100 * num) ≡ true
average_more pods num den some more =
    let parts : num / den * den + num % den ≡ num = div-add-mod' num den in
    let above : (pods + 1) * den ≤ 100 * (num / den) * den = mul-le-mul_right den (omega arith) in
    let first : (pods + 1) * den ≡ pods * den + 1 * den = add-mul pods 1 den in
    let last : 100 * (num / den) * den ≡ 100 * (num / den * den) = mul_assoc 100 (num / den) den in
    grind (arith, nat_tests)

pub average_rest : (pods num den : ℕ) → num / den ≤ pods / 100 → nat_lt ((pods - 100 * (num / den)) * den) (100 * (num % den)) ≡ nat_lt (pods * den) (100 * num)
average_rest pods num den few =
    let parts : num / den * den + num % den ≡ num = div-add-mod' num den in
    let left : 100 * (num / den) + (pods - 100 * (num / den)) ≡ pods = omega arith in
    let split : (100 * (num / den) + (pods - 100 * (num / den))) * den ≡ 100 * (num / den) * den + (pods - 100 * (num / den)) * den = add-mul (100 * (num / den)) (pods - 100 * (num / den)) den in
    let all : pods * den ≡ 100 * (num / den) * den + (pods - 100 * (num / den)) * den = rw left at split in
    let turn : 100 * (num / den) * den ≡ 100 * (num / den * den) = mul_assoc 100 (num / den) den in
    less (num / den * den) ((pods - 100 * (num / den)) * den) (num % den) num (pods * den) (omega arith) (omega arith)
  where
    less : (a b r num all : ℕ) → num ≡ a + r → all ≡ 100 * a + b → nat_lt b (100 * r) ≡ nat_lt all (100 * num)
    less a b r num all is sum = grind (arith, nat_tests)
