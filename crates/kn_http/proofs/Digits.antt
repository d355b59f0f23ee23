-- The number that digits spell, as `parse` reads it.
use Rattle.std.proofs.Common.{◌≡◌, ◌^◌, ◌<◌, ◌≤◌, ℕ, true, false, List, length, Option, None, Some, arith, rules, Result, Ok, Err, sym, eq-eqb}
use Rattle.std.specs.Prelude.{IsNone, MatchOption}
use Rattle.std.specs.Char.{is_ascii_digit}
use Rattle.std.specs.List.{list_all}
use Rattle.std.specs.Str.{IsUtf8}
use Rattle.std.specs.Str.Parse.{digits_value, ParsesUnsigned}
use Rattle.std.specs.Result.{result_ok}
use Rattle.std.proofs.lemmas.Bool.{ne_eqb}
use Rattle.std.proofs.lemmas.Str.{IsUtf8-from_ascii}
use Rattle.std.proofs.lemmas.Fmt.{IsAscii-from_digits}
use Rattle.std.proofs.lemmas.Str.Parse.{IsNumeralModel, numerals_by_value, parse_digits, digits_value_short}
use Rattle.kn_http.specs.Numbers.{are_digits, says}

own : IsNumeralModel (λ ds. list_all is_ascii_digit ds ≡ true) (digits_value 10)
own = numerals_by_value _ (search rules)

pub digits_are_text : (bs : List ℕ) → list_all is_ascii_digit bs ≡ true → IsUtf8 bs
digits_are_text bs h = IsUtf8-from_ascii bs (IsAscii-from_digits bs (own.to bs h))

pub parsed_digits : {E : Type 0} (bs : List ℕ) (r : Result ℕ E) → list_all is_ascii_digit bs ≡ true → 0 < length bs
    → ParsesUnsigned 64 10 bs r → MatchOption (result_ok r) (2 ^ 64 ≤ digits_value 10 bs) (λ n. n ≡ digits_value 10 bs)
parsed_digits {E} bs (Ok n) h some p = (parse_digits own {E = E} 64 bs (Ok n) p h).1
parsed_digits {E} bs (Err e) h some p = not_small (λ small. parse_digits own {E = E} 64 bs (Err e) p h (some, small))
  where
    not_small : {n : ℕ} → ¬ (n < 2 ^ 64) → 2 ^ 64 ≤ n
    not_small refused = omega arith

-- ---- what they say

pub said : (bs : List ℕ) (r : Option ℕ) → list_all is_ascii_digit bs ≡ true → 0 < length bs
    → MatchOption r (2 ^ 64 ≤ digits_value 10 bs) (λ n. n ≡ digits_value 10 bs)
    → MatchOption r ((n : ℕ) → n < 2 ^ 64 → says n bs ≡ false) (λ n. says n bs ≡ true)
said bs None digits some large = λ n small. rw (digits, ne_eqb (digits_value 10 bs) n (λ same. omega (arith, same, small, large))) (grind (arith, some))
said bs (Some n) digits some is = rw (digits, eq-eqb (digits_value 10 bs) n (sym is)) (grind (arith, some))

pub short_said : (bs : List ℕ) (r : Option ℕ) → list_all is_ascii_digit bs ≡ true
    → MatchOption r (2 ^ 64 ≤ digits_value 10 bs) (λ n. n ≡ digits_value 10 bs) → length bs ≤ 19 → IsNone r → are_digits bs ≡ false
short_said bs None digits large few none = absurd (omega (arith, large, digits_value_short own bs 19 digits few))
short_said bs (Some n) digits is few none = cc
