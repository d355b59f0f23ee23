-- What is read as a number is spelled as one, and what is spelled as one is read.
use Rattle.std.proofs.Common.{◌≡◌, ℕ, suc, ◌+◌, ◌-◌, ◌*◌, ◌^◌, ◌<◌, ◌≤◌, nat_eq, nat_lt, true, false, cond, List, [], ◌∷◌, ◌++◌, length, take, drop, Result, Ok, Err, refl, sym, ◌∙◌, ap, subst, inl, inr, append_assoc, append-nil, length-append, arith, codes}
use Rattle.std.proofs.lemmas.Bool.{cases_Bool, eq-eqb}
use Rattle.std.proofs.Math.Dec.{eqb}
use Rattle.std.proofs.Math.Seq.{drop-append_seam, take-append_seam}
use Rattle.std.proofs.lemmas.Bool.Decides.{nat_tests}
use Rattle.std.proofs.lemmas.List.{take-append-drop, take_all}
use Rattle.std.proofs.lemmas.List.Folds.{length-prefix_len, prefix_len-append}
use Rattle.std.specs.Char.{is_ascii_digit}
use Rattle.std.specs.List.{list_all, starts_with}
use Rattle.kn_event.specs.declared.units.Milli.{Milli}
use Rattle.kn_num.specs.declared.number.Number.{Number}
use Rattle.kn_num.specs.declared.error.NumError.{NumError}
use Rattle.kn_num.specs.declared.error.NumError.TheVariants.{BadByte, TooLarge}
use Rattle.kn_num.specs.Number.{◌>>=◌, digit_count, decimal_value, number_at, thousandths_of, milli_of, whole_of}
use Rattle.kn_num.specs.Spelling.{IsDigits, IsPlain, HasDecimals, IsNumber}

-- the digits that a text begins with are digits
front_step : (b : ℕ) (bs : List ℕ) (n : ℕ) → list_all is_ascii_digit (take n bs) ≡ true → list_all is_ascii_digit (take (cond (is_ascii_digit b) (1 + n) 0) (b ∷ bs)) ≡ true
front_step b bs n rest =
    let e : 1 + n ≡ suc n = omega arith in
    elim (cases_Bool (is_ascii_digit b)) [ inl digit ↦ rw (digit, e, digit) rest | inr other ↦ rw other refl ]

front_digits : (text : List ℕ) → list_all is_ascii_digit (take (digit_count text) text) ≡ true
front_digits [] = refl
front_digits (b ∷ bs) = front_step b bs (digit_count bs) (front_digits bs)

-- as many as there are
counted_step : (b : ℕ) (bs : List ℕ) → (list_all is_ascii_digit bs ≡ true → digit_count bs ≡ length bs) → list_all is_ascii_digit (b ∷ bs) ≡ true → digit_count (b ∷ bs) ≡ length (b ∷ bs)
counted_step b bs rest all = grind (arith, nat_tests)

all_counted : (digits : List ℕ) → list_all is_ascii_digit digits ≡ true → digit_count digits ≡ length digits
all_counted [] all = refl
all_counted (b ∷ bs) all = counted_step b bs (all_counted bs) all

-- a text that begins with a point
point_first : (text : List ℕ) → starts_with nat_eq text (codes ".") ≡ true → text ≡ 46 ∷ drop 1 text
point_first [] is = absurd (cc)
point_first (b ∷ bs) is = let e : b ≡ 46 = grind (arith, nat_tests) in ap (λ c. c ∷ bs) e

-- the front of a text, with its point and decimals
front_with_point : (whole more : List ℕ) (n : ℕ) → take (length whole + 1 + n) (whole ++ 46 ∷ more) ≡ whole ++ 46 ∷ take n more
front_with_point [] more n = let e : 0 + 1 + n ≡ suc n = omega arith in rw e refl
front_with_point (b ∷ bs) more n = let e : suc (length bs) + 1 + n ≡ suc (length bs + 1 + n) = omega arith in rw e (ap (λ t. b ∷ t) (front_with_point bs more n))

-- a count that is some
some_counted : (n : ℕ) → nat_eq n 0 ≡ false → 0 < n
some_counted n some = grind (arith, nat_tests)

-- the digits at the front
front_is_digits : (text : List ℕ) → nat_eq (digit_count text) 0 ≡ false → IsDigits (take (digit_count text) text)
front_is_digits text some = record {
  some = rw (length-prefix_len is_ascii_digit text) (some_counted _ some);
  all = front_digits text;
}

-- digits alone
plain_number : List ℕ → Number
plain_number text = record { whole = decimal_value (take (digit_count text) text); thousandths = 0; length = digit_count text }

plain_is_spelled : (text : List ℕ) → nat_eq (digit_count text) 0 ≡ false → IsNumber (take (digit_count text) text) (thousandths_of (plain_number text))
unfolding plain_number
plain_is_spelled text some = inl (record { digits = front_is_digits text some; value = omega arith })

-- digits, a point and the decimals that `more` begins with
pointed_number : List ℕ → List ℕ → Number
pointed_number whole more = record { whole = decimal_value whole; thousandths = decimal_value (take (digit_count more) more) * 10 ^ (3 - digit_count more); length = length whole + 1 + digit_count more }

pointed_is_spelled : (whole more : List ℕ) → IsDigits whole → nat_eq (digit_count more) 0 ≡ false → nat_lt 3 (digit_count more) ≡ false → IsNumber (take (pointed_number whole more).length (whole ++ 46 ∷ more)) (thousandths_of (pointed_number whole more))
unfolding pointed_number
pointed_is_spelled whole more digits some few = inr (
  whole,
  (
    take (digit_count more) more,
    record {
      spelled = front_with_point whole more (digit_count more);
      whole_part = digits;
      decimal_part = front_is_digits more some;
      few = rw (length-prefix_len is_ascii_digit more) (grind (arith, nat_tests));
      value = rw (length-prefix_len is_ascii_digit more) refl;
    },
  ),
)

-- what a number takes of a text is spelled as it is
pub number_is_spelled : (place : ℕ) (text : List ℕ) (n : Number) → number_at place text ≡ Ok n → IsNumber (take n.length text) (thousandths_of n)
unfolding plain_number pointed_number
number_is_spelled place text n is =
    elim (cases_Bool (nat_eq (digit_count text) 0)) [
      | inl none ↦ let i = rw none at is in absurd (cc)
      | inr some ↦
          let i = rw some at is in
          let rest : List ℕ = drop (digit_count text) text in
          let more : List ℕ = drop 1 rest in
          elim (cases_Bool (starts_with nat_eq rest (codes "."))) [
            | inl point ↦
                let j = rw point at i in
                elim (cases_Bool (nat_eq (digit_count more) 0)) [
                  | inl bare ↦ let k = rw bare at j in absurd (cc)
                  | inr decimals ↦
                      let k = rw decimals at j in
                      elim (cases_Bool (nat_lt 3 (digit_count more))) [
                        | inl many ↦ let l = rw many at k in absurd (cc)
                        | inr few ↦
                            let l = rw few at k in
                            let e : pointed_number (take (digit_count text) text) more ≡ n = cc in
                            let spelled : text ≡ take (digit_count text) text ++ 46 ∷ more = sym (take-append-drop (digit_count text) text) ∙ ap (λ r. take (digit_count text) text ++ r) (point_first rest point) in
                            subst (λ (n : Number). IsNumber (take n.length text) (thousandths_of n)) e
                            (subst (λ t. IsNumber (take (pointed_number (take (digit_count text) text) more).length t) (thousandths_of (pointed_number (take (digit_count text) text) more))) (sym spelled)
                            (pointed_is_spelled (take (digit_count text) text) more (front_is_digits text some) decimals few))
                      ]
                ]
            | inr plain ↦
                let j = rw plain at i in
                let e : plain_number text ≡ n = cc in
                subst (λ (n : Number). IsNumber (take n.length text) (thousandths_of n)) e (plain_is_spelled text some)
          ]
    ]

-- what is read as a number is spelled as one
judged_is_spelled : (text : List ℕ) (m : Milli) (r : Result Number NumError) → number_at 0 text ≡ r → (r >>= λ number. cond (nat_lt number.length (length text)) (Err (BadByte number.length)) (cond (nat_lt 1000000000000 (thousandths_of number)) (Err TooLarge) (Ok (record { 0 = thousandths_of number })))) ≡ Ok m → IsNumber text m.0 × (m.0 ≤ 1000000000000)
judged_is_spelled text m (Err fault) read is = absurd (cc)
judged_is_spelled text m (Ok n) read is =
    elim (cases_Bool (nat_lt n.length (length text))) [
      | inl early ↦ let i = rw early at is in absurd (cc)
      | inr whole ↦
          let i = rw whole at is in
          elim (cases_Bool (nat_lt 1000000000000 (thousandths_of n))) [
            | inl large ↦ let j = rw large at i in absurd (cc)
            | inr fits ↦
                let j = rw fits at i in
                let at : Milli = record { 0 = thousandths_of n } in
                let e : at ≡ m = cc in
                let all : length text ≤ n.length = grind (arith, nat_tests) in
                let same : take n.length text ≡ text = take_all _ _ all in
                let small : thousandths_of n ≤ 1000000000000 = grind (arith, nat_tests) in
                subst (λ (m : Milli). IsNumber text m.0 × (m.0 ≤ 1000000000000)) e (subst (λ t. IsNumber t (thousandths_of n)) same (number_is_spelled 0 text n read), small)
          ]
    ]

pub read_is_spelled : (text : List ℕ) (m : Milli) → milli_of text ≡ Ok m → IsNumber text m.0 × (m.0 ≤ 1000000000000)
read_is_spelled text m is = elim (cases_Bool (nat_eq (length text) 0)) [
  | inl none ↦ let i = rw none at is in absurd (cc)
  | inr some ↦ let i = rw some at is in judged_is_spelled text m (number_at 0 text) refl i
]

-- digits and what follows them
digits_then : (digits rest : List ℕ) → list_all is_ascii_digit digits ≡ true → digit_count rest ≡ 0 → digit_count (digits ++ rest) ≡ length digits
digits_then digits rest all none =
    let n = all_counted digits all in
    let e : eqb (digit_count digits) (length digits) ≡ true = eq-eqb _ _ n in
    prefix_len-append is_ascii_digit digits rest ∙ rw (e, none) (omega arith)

-- a number's thousandths and the bytes that it takes are found
unfoldable pub Reads : ℕ → List ℕ → ℕ → ℕ → Type 0
Reads place text thousandths taken = (n : Number) × ((number_at place text ≡ Ok n) × (thousandths_of n ≡ thousandths) × (n.length ≡ taken))

plain_is_read : (place : ℕ) (front rest : List ℕ) (v : ℕ) → digit_count rest ≡ 0 → starts_with nat_eq rest (codes ".") ≡ false → IsPlain front v → Reads place (front ++ rest) v (length front)
unfolding Reads
plain_is_read place front rest v none other spelled =
    let count = digits_then front rest spelled.digits.all none in
    let some : nat_eq (length front) 0 ≡ false = let h = spelled.digits.some in grind (arith, nat_tests) in
    let n : Number = record { whole = decimal_value front; thousandths = 0; length = length front } in
    (n, (rw (count, some, drop-append_seam front rest, other, take-append_seam front rest) refl, (let h = spelled.value in omega arith), refl))

pointed_is_read : (place : ℕ) (front whole decimals rest : List ℕ) (v : ℕ) → digit_count rest ≡ 0 → HasDecimals front whole decimals v → Reads place (front ++ rest) v (length front)
unfolding Reads
pointed_is_read place front whole decimals rest v none spelled =
    let tail : List ℕ = 46 ∷ (decimals ++ rest) in
    let count = digits_then whole tail spelled.whole_part.all refl in
    let some : nat_eq (length whole) 0 ≡ false = let h = spelled.whole_part.some in grind (arith, nat_tests) in
    let count_decimals = digits_then decimals rest spelled.decimal_part.all none in
    let some_decimals : nat_eq (length decimals) 0 ≡ false = let h = spelled.decimal_part.some in grind (arith, nat_tests) in
    let few : nat_lt 3 (length decimals) ≡ false = let h = spelled.few in grind (arith, nat_tests) in
    let n : Number = record { whole = decimal_value whole; thousandths = decimal_value decimals * 10 ^ (3 - length decimals); length = length whole + 1 + length decimals } in
    let read : number_at place (whole ++ tail) ≡ Ok n =
    rw (count, some, drop-append_seam whole tail, take-append_seam whole tail, count_decimals, some_decimals, few, take-append_seam decimals rest) refl in
    let same : front ++ rest ≡ whole ++ tail = ap (λ f. f ++ rest) spelled.spelled ∙ append_assoc whole (46 ∷ decimals) rest in
    let long : length front ≡ length whole + suc (length decimals) = ap length spelled.spelled ∙ length-append whole (46 ∷ decimals) in
    (n, (rw same read, sym spelled.value, omega (arith, long)))

-- what is spelled as a number is read, whatever follows it that continues no number
pub number_is_read : (place : ℕ) (front rest : List ℕ) (v : ℕ) → digit_count rest ≡ 0 → starts_with nat_eq rest (codes ".") ≡ false → IsNumber front v → Reads place (front ++ rest) v (length front)
number_is_read place front rest v none other (inl plain) = plain_is_read place front rest v none other plain
number_is_read place front rest v none other (inr spelled) = pointed_is_read place front spelled.0 spelled.1.0 rest v none spelled.1.1

some_bytes : (text : List ℕ) (v : ℕ) → IsNumber text v → 0 < length text
some_bytes text v (inl plain) = plain.digits.some
some_bytes text v (inr spelled) = let h = ap length spelled.1.1.spelled ∙ length-append spelled.0 (46 ∷ spelled.1.0) in omega (arith, h)

pub spelled_is_read : (text : List ℕ) (v : ℕ) → IsNumber text v → v ≤ 1000000000000 → milli_of text ≡ Ok (record { 0 = v })
unfolding Reads
spelled_is_read text v spelled fits =
    let some : nat_eq (length text) 0 ≡ false = let h = some_bytes text v spelled in grind (arith, nat_tests) in
    let read = number_is_read 0 text [] v refl refl spelled in
    let at : number_at 0 text ≡ Ok read.0 = let e : text ++ [] ≡ text = append-nil text in rw e at read.1.0 in
    let whole : nat_lt read.0.length (length text) ≡ false = let h = read.1.2 in grind (arith, nat_tests) in
    let value : thousandths_of read.0 ≡ v = read.1.1 in
    let small : nat_lt 1000000000000 v ≡ false = grind (arith, nat_tests) in
    let next : Number → Result Milli NumError = λ number. cond (nat_lt number.length (length text)) (Err (BadByte number.length)) (cond (nat_lt 1000000000000 (thousandths_of number)) (Err TooLarge) (Ok (record { 0 = thousandths_of number }))) in
    rw some (ap (λ r. r >>= next) at ∙ rw (whole, value, small) refl)

pub one_value : (text : List ℕ) (v w : ℕ) → IsNumber text v → IsNumber text w → v ≡ w
unfolding Reads
one_value text v w first second =
    let a = number_is_read 0 text [] v refl refl first in
    let b = number_is_read 0 text [] w refl refl second in
    let e : a.0 ≡ b.0 = cc in
    sym a.1.1 ∙ ap thousandths_of e ∙ b.1.1

-- the same of whole numbers
pub read_whole_is_spelled : (text : List ℕ) (n : ℕ) → whole_of text ≡ Ok n → IsDigits text × (n ≡ decimal_value text) × (n ≤ 1000000000)
read_whole_is_spelled text n is =
    elim (cases_Bool (nat_eq (length text) 0)) [
      | inl none ↦ let i = rw none at is in absurd (cc)
      | inr some ↦
          let i = rw some at is in
          elim (cases_Bool (nat_lt (digit_count text) (length text))) [
            | inl early ↦ let j = rw early at i in absurd (cc)
            | inr whole ↦
                let j = rw whole at i in
                elim (cases_Bool (nat_lt 1000000000 (decimal_value text))) [
                  | inl large ↦ let k = rw large at j in absurd (cc)
                  | inr fits ↦
                      let k = rw fits at j in
                      let e : decimal_value text ≡ n = cc in
                      let small : decimal_value text ≤ 1000000000 = grind (arith, nat_tests) in
                      let all : length text ≤ digit_count text = grind (arith, nat_tests) in
                      let same : take (digit_count text) text ≡ text = take_all _ _ all in
                      (record { some = some_counted (length text) some; all = rw same at (front_digits text) }, sym e, subst (λ m. m ≤ 1000000000) e small)
                ]
          ]
    ]

pub spelled_whole_is_read : (text : List ℕ) → IsDigits text → decimal_value text ≤ 1000000000 → whole_of text ≡ Ok (decimal_value text)
spelled_whole_is_read text digits fits =
    let some : nat_eq (length text) 0 ≡ false = let h = digits.some in grind (arith, nat_tests) in
    let count = all_counted text digits.all in
    let whole : nat_lt (digit_count text) (length text) ≡ false = grind (arith, nat_tests) in
    let small : nat_lt 1000000000 (decimal_value text) ≡ false = grind (arith, nat_tests) in
    rw (some, whole, small) refl
