-- Numbers as texts: digits, then perhaps a point and one to three decimals.
use Rattle.std.specs.Prelude.{ℕ, ◌+◌, ◌-◌, ◌*◌, ◌^◌, ◌==◌, nat_eq, nat_lt, List, length, take, drop, fold, Result, Ok, Err, if◌then◌else◌, codes}
use Rattle.std.specs.Char.{is_ascii_digit}
use Rattle.std.specs.List.{prefix_len, starts_with}
use Rattle.kn_event.specs.declared.units.Milli.{Milli}
use Rattle.kn_num.specs.declared.error.NumError.{NumError}
use Rattle.kn_num.specs.declared.error.NumError.TheVariants.{Empty, BadByte, TooFine, TooLarge}
use Rattle.kn_num.specs.declared.number.Number.{Number}

-- a step that may fail, and the next one, which is given what it found
infixl 10 ◌>>=◌
abbrev pub ◌>>=◌ : {A B : Type 0} → Result A NumError → (A → Result B NumError) → Result B NumError
(Ok x) >>= next = next x
(Err e) >>= next = Err e

-- how many digits a text begins with
abbrev pub digit_count : List ℕ → ℕ
digit_count text = prefix_len is_ascii_digit text

-- the number that digits write
abbrev pub decimal_value : List ℕ → ℕ
decimal_value digits = fold (λ value digit. 10 * value + (digit - 48)) 0 digits

-- a number in all its thousandths
abbrev pub thousandths_of : Number → ℕ
thousandths_of number = 1000 * number.whole + number.thousandths

-- the decimals that `text` begins with, after the digits `whole` and a point: one to three
abbrev pub number_with_decimals : ℕ → List ℕ → List ℕ → Result Number NumError
number_with_decimals place whole text =
    let decimals = digit_count text in
    if decimals == 0 then Err (BadByte place)
    else (if nat_lt 3 decimals then Err (TooFine (place + 3))
    else Ok (record { whole = decimal_value whole; thousandths = decimal_value (take decimals text) * 10 ^ (3 - decimals); length = length whole + 1 + decimals }))

-- the number at the front of a text, whose first byte stands at this place: a digit is due, and decimals after a point
abbrev pub number_at : ℕ → List ℕ → Result Number NumError
number_at place text =
    let digits = digit_count text in
    let whole = take digits text in
    let rest = drop digits text in
    if digits == 0 then Err (BadByte place)
    else (if starts_with nat_eq rest (codes ".") then number_with_decimals (place + digits + 1) whole (drop 1 rest)
    else Ok (record { whole = decimal_value whole; thousandths = 0; length = digits }))

-- a number of at most 10^9 and nothing else
abbrev pub milli_of : List ℕ → Result Milli NumError
milli_of text =
    if length text == 0 then Err Empty
    else (number_at 0 text >>= λ number.
    if nat_lt number.length (length text) then Err (BadByte number.length)
    else (if nat_lt 1000000000000 (thousandths_of number) then Err TooLarge
    else Ok (record { 0 = thousandths_of number })))

-- digits and nothing else, at most 10^9
abbrev pub whole_of : List ℕ → Result ℕ NumError
whole_of text =
    if length text == 0 then Err Empty
    else (if nat_lt (digit_count text) (length text) then Err (BadByte (digit_count text))
    else (if nat_lt 1000000000 (decimal_value text) then Err TooLarge
    else Ok (decimal_value text)))
