-- What is read as a duration is spelled as one, and what is spelled as one is read.
use Rattle.std.proofs.Common.{◌≡◌, ℕ, zero, suc, ◌+◌, ◌-◌, ◌*◌, ◌/◌, ◌%◌, ◌<◌, ◌≤◌, ◌==◌, ◌&&◌, nat_eq, nat_lt, Bool, true, false, cond, List, [], ◌∷◌, ◌++◌, length, take, drop, Result, Ok, Err, refl, sym, ◌∙◌, ap, subst, inl, inr, append_assoc, length-append, length-drop, zero-add, arith, codes}
use Rattle.std.proofs.lemmas.Bool.{cases_Bool, false_from_ne_true}
use Rattle.std.proofs.lemmas.Slice.Eq.{bytes_eq-Decides}
use Rattle.std.proofs.lemmas.Bool.Decides.{nat_tests}
use Rattle.std.proofs.Math.Seq.{drop-append_seam}
use Rattle.std.proofs.lemmas.List.{take-append-drop, drop-drop}
use Rattle.std.specs.Prelude.{bytes_eq}
use Rattle.std.specs.Char.{is_ascii_digit}
use Rattle.std.specs.List.{starts_with, list_all}
use Rattle.kn_num.specs.declared.error.NumError.{NumError}
use Rattle.kn_num.specs.declared.error.NumError.TheVariants.{TooLarge}
use Rattle.kn_num.specs.declared.number.Number.{Number}
use Rattle.kn_num.specs.declared.duration.TimeUnit.{TimeUnit}
use Rattle.kn_num.specs.declared.duration.TimeUnit.TheVariants.{Hours, Minutes, Seconds, Milliseconds}
use Rattle.kn_num.specs.declared.duration.Part.{Part}
use Rattle.kn_num.specs.Number.{◌>>=◌, digit_count, number_at, thousandths_of}
use Rattle.kn_num.specs.Duration.{unit_ms, unit_length, unit_at, part_ms, part_of, part_at, parts_ms, longest, duration_ms_of}
use Rattle.kn_num.specs.Spelling.{IsDigits, IsNumber, unit_text, Piece, IsPiece, piece_text, pieces_text, pieces_ms, ArePieces, HasPieces, IsDuration}
use Rattle.kn_num.proofs.Spelling.{number_is_spelled, number_is_read, Reads}
use Rattle.kn_num.proofs.Durations.{parts_ms-cons, parts_ms-fault, with_part, duration_is, judged_after}

-- a unit's letters are no digits and no point
no_digit : (unit : TimeUnit) (rest : List ℕ) → digit_count (unit_text unit ++ rest) ≡ 0
no_digit Hours rest = refl
no_digit Minutes rest = refl
no_digit Seconds rest = refl
no_digit Milliseconds rest = refl

no_point : (unit : TimeUnit) (rest : List ℕ) → starts_with nat_eq (unit_text unit ++ rest) (codes ".") ≡ false
no_point Hours rest = refl
no_point Minutes rest = refl
no_point Seconds rest = refl
no_point Milliseconds rest = refl

-- a unit is read, where no `s` follows that would change an `m`
unit_is_read : (place : ℕ) (unit : TimeUnit) (rest : List ℕ) → starts_with nat_eq rest (codes "s") ≡ false → unit_at place (unit_text unit ++ rest) ≡ Ok unit
unit_is_read place Hours rest none = refl
unit_is_read place Minutes rest none = rw none refl
unit_is_read place Seconds rest none = refl
unit_is_read place Milliseconds rest none = refl

unit_text_length : (unit : TimeUnit) → length (unit_text unit) ≡ unit_length unit
unit_text_length Hours = refl
unit_text_length Minutes = refl
unit_text_length Seconds = refl
unit_text_length Milliseconds = refl

-- a part of whole milliseconds is read
whole_is_read : (n : Number) (unit : TimeUnit) (ms : ℕ) → thousandths_of n * unit_ms unit ≡ 1000 * ms → n.thousandths * unit_ms unit % 1000 ≡ 0
whole_is_read n Hours ms e = omega arith
whole_is_read n Minutes ms e = omega arith
whole_is_read n Seconds ms e = omega arith
whole_is_read n Milliseconds ms e = omega arith

exact_quotient : (a ms : ℕ) → a ≡ 1000 * ms → a / 1000 ≡ ms
exact_quotient a ms e = omega arith

part_is_read : (place : ℕ) (n : Number) (unit : TimeUnit) (ms : ℕ) → thousandths_of n ≤ 1000000000000 → thousandths_of n * unit_ms unit ≡ 1000 * ms → part_of place n unit ≡ Ok (record { ms = ms; length = n.length + unit_length unit })
part_is_read place n unit ms most whole =
    let fine = whole_is_read n unit ms whole in
    let small : nat_lt 1000000000000 (thousandths_of n) ≡ false = grind (arith, nat_tests) in
    let quotient = exact_quotient (thousandths_of n * unit_ms unit) ms whole in
    rw (fine, small, quotient) refl

-- a piece is read, where no `s` follows
piece_is_read : (place : ℕ) (piece : Piece) (rest : List ℕ) → IsPiece piece → starts_with nat_eq rest (codes "s") ≡ false → part_at place (piece_text piece ++ rest) ≡ Ok (record { ms = piece.ms; length = length (piece_text piece) })
unfolding Reads
piece_is_read place piece rest spelled none =
    let tail : List ℕ = unit_text piece.unit ++ rest in
    let read = number_is_read place piece.number tail piece.thousandths (no_digit piece.unit rest) (no_point piece.unit rest) spelled.spelled in
    let n : Number = read.0 in
    let same : piece_text piece ++ rest ≡ piece.number ++ tail = append_assoc piece.number (unit_text piece.unit) rest in
    let after : drop n.length (piece.number ++ tail) ≡ tail = ap (λ k. drop k (piece.number ++ tail)) read.1.2 ∙ drop-append_seam piece.number tail in
    let unit : unit_at (place + n.length) (drop n.length (piece.number ++ tail)) ≡ Ok piece.unit = ap (unit_at (place + n.length)) after ∙ unit_is_read (place + n.length) piece.unit rest none in
    let most : thousandths_of n ≤ 1000000000000 = let h = spelled.most in let e = read.1.1 in omega arith in
    let whole : thousandths_of n * unit_ms piece.unit ≡ 1000 * piece.ms = ap (λ k. k * unit_ms piece.unit) read.1.1 ∙ spelled.whole_ms in
    let part = part_is_read (place + n.length) n piece.unit piece.ms most whole in
    let long : n.length + unit_length piece.unit ≡ length (piece_text piece) = let e = length-append piece.number (unit_text piece.unit) in let f = unit_text_length piece.unit in let g = read.1.2 in omega arith in
    let whole_text : part_at place (piece.number ++ tail) ≡ Ok (record { ms = piece.ms; length = n.length + unit_length piece.unit }) =
    ap (λ r. r >>= λ n. unit_at (place + n.length) (drop n.length (piece.number ++ tail)) >>= λ u. part_of (place + n.length) n u) read.1.0
    ∙ ap (λ r. r >>= λ u. part_of (place + n.length) n u) unit ∙ part in
    ap (part_at place) same ∙ whole_text ∙ ap (λ k. let p : Result Part NumError = Ok (record { ms = piece.ms; length = k }) in p) long

-- no digit is an `s`
not_s : (b : ℕ) (more : Bool) → is_ascii_digit b && more ≡ true → nat_eq 115 b && true ≡ false
not_s b more digit = grind (arith, nat_tests)

-- a number begins with a digit
first_digit : (text : List ℕ) (rest : List ℕ) → IsDigits text → starts_with nat_eq (text ++ rest) (codes "s") ≡ false
first_digit [] rest digits = absurd (let h = digits.some in omega arith)
first_digit (b ∷ bs) rest digits = not_s b (list_all is_ascii_digit bs) digits.all

number_first : (text rest : List ℕ) (v : ℕ) → IsNumber text v → starts_with nat_eq (text ++ rest) (codes "s") ≡ false
number_first text rest v (inl plain) = first_digit text rest plain.digits
number_first text rest v (inr spelled) =
    let e : text ++ rest ≡ spelled.0 ++ (46 ∷ spelled.1.0 ++ rest) = ap (λ t. t ++ rest) spelled.1.1.spelled ∙ append_assoc spelled.0 (46 ∷ spelled.1.0) rest in
    rw e (first_digit spelled.0 (46 ∷ spelled.1.0 ++ rest) spelled.1.1.whole_part)

-- pieces don't begin with an `s`
pieces_first : (pieces : List Piece) → ArePieces pieces → starts_with nat_eq (pieces_text pieces) (codes "s") ≡ false
pieces_first [] each = refl
pieces_first (piece ∷ pieces) each = rw append_assoc (number_first piece.number (unit_text piece.unit ++ pieces_text pieces) piece.thousandths each.0.spelled)

number_some : (text : List ℕ) (v : ℕ) → IsNumber text v → 0 < length text
number_some text v (inl plain) = plain.digits.some
number_some text v (inr spelled) = let h = ap length spelled.1.1.spelled ∙ length-append spelled.0 (46 ∷ spelled.1.0) in omega (arith, h)

-- pieces are read one after another
pieces_are_read : (pieces : List Piece) (place : ℕ) → ArePieces pieces → parts_ms place 0 (pieces_text pieces) ≡ Ok (pieces_ms pieces)
pieces_are_read [] place each = refl
pieces_are_read (piece ∷ pieces) place each =
    let rest : List ℕ = pieces_text pieces in
    let part : Part = record { ms = piece.ms; length = length (piece_text piece) } in
    let read = piece_is_read place piece rest each.0 (pieces_first pieces each.1) in
    let some : 0 < length (piece_text piece) = let h = number_some piece.number piece.thousandths each.0.spelled in let e = length-append piece.number (unit_text piece.unit) in omega arith in
    let any : 0 < length (piece_text piece ++ rest) = let e = length-append (piece_text piece) rest in omega arith in
    parts_ms-cons place (piece_text piece ++ rest) part any read some
    ∙ ap (λ t. with_part piece.ms (parts_ms (place + length (piece_text piece)) 0 t)) (drop-append_seam (piece_text piece) rest)
    ∙ ap (with_part piece.ms) (pieces_are_read pieces (place + length (piece_text piece)) each.1)

-- a text that begins with one letter, or with two
one_first : (c : ℕ) (text : List ℕ) → starts_with nat_eq text (c ∷ []) ≡ true → text ≡ c ∷ drop 1 text
one_first c [] is = absurd (cc)
one_first c (b ∷ bs) is = let e : b ≡ c = grind (arith, nat_tests) in ap (λ x. x ∷ bs) e

two_first : (c d : ℕ) (text : List ℕ) → starts_with nat_eq text (c ∷ d ∷ []) ≡ true → text ≡ c ∷ d ∷ drop 2 text
two_first c d [] is = absurd (cc)
two_first c d (a ∷ []) is = absurd (grind (arith, nat_tests))
two_first c d (a ∷ b ∷ bs) is = let e : a ≡ c = grind (arith, nat_tests) in let f : b ≡ d = grind (arith, nat_tests) in ap (λ x. x ∷ b ∷ bs) e ∙ ap (λ x. c ∷ x ∷ bs) f

-- what is read as a unit is spelled as one
unit_is_spelled : (place : ℕ) (text : List ℕ) (unit : TimeUnit) → unit_at place text ≡ Ok unit → text ≡ unit_text unit ++ drop (unit_length unit) text
unit_is_spelled place text unit is =
    let P : TimeUnit → Type 0 = λ u. text ≡ unit_text u ++ drop (unit_length u) text in
    elim (cases_Bool (starts_with nat_eq text (codes "ms"))) [
      | inl a ↦ let i = rw a at is in let e : Milliseconds ≡ unit = cc in subst P e (two_first 109 115 text a)
      | inr b ↦
          let j = rw b at is in
          elim (cases_Bool (starts_with nat_eq text (codes "h"))) [
            | inl a ↦ let i = rw a at j in let e : Hours ≡ unit = cc in subst P e (one_first 104 text a)
            | inr d ↦
                let k = rw d at j in
                elim (cases_Bool (starts_with nat_eq text (codes "m"))) [
                  | inl a ↦ let i = rw a at k in let e : Minutes ≡ unit = cc in subst P e (one_first 109 text a)
                  | inr f ↦
                      let l = rw f at k in
                      elim (cases_Bool (starts_with nat_eq text (codes "s"))) [
                        | inl a ↦ let i = rw a at l in let e : Seconds ≡ unit = cc in subst P e (one_first 115 text a)
                        | inr g ↦
                            let m = rw g at l in absurd (cc)
                      ]
                ]
          ]
    ]

unit_some : (unit : TimeUnit) → 0 < unit_length unit
unit_some Hours = omega arith
unit_some Minutes = omega arith
unit_some Seconds = omega arith
unit_some Milliseconds = omega arith

-- a part whose decimals are whole milliseconds is
whole_is_spelled : (n : Number) (unit : TimeUnit) → n.thousandths * unit_ms unit % 1000 ≡ 0 → thousandths_of n * unit_ms unit ≡ 1000 * (thousandths_of n * unit_ms unit / 1000)
whole_is_spelled n Hours e = omega arith
whole_is_spelled n Minutes e = omega arith
whole_is_spelled n Seconds e = omega arith
whole_is_spelled n Milliseconds e = omega arith

-- a part that is no longer than the longest duration has a number of at most 10^9
too_long : (n : Number) (unit : TimeUnit) → nat_lt 1000000000000 (thousandths_of n) ≡ true → part_ms n unit ≡ 4398046511105
too_long n unit large = rw large refl

small_number : (n : Number) (unit : TimeUnit) (ms : ℕ) → part_ms n unit ≡ ms → ms ≤ 4398046511104 → thousandths_of n ≤ 1000000000000
small_number n unit ms is short = elim (cases_Bool (nat_lt 1000000000000 (thousandths_of n))) [
  | inl large ↦ let f = too_long n unit large in let g : ms ≡ 4398046511105 = sym is ∙ f in absurd (omega arith)
  | inr fits ↦ grind (arith, nat_tests)
]

-- what a part of a text came from
record IsSpelledPart (text : List ℕ) (part : Part) (piece : Piece) : Type 0 where
  piece_of : IsPiece piece
  text_of : text ≡ piece_text piece ++ drop part.length text
  ms_of : piece.ms ≡ part.ms
  some : 0 < part.length

made_part_is_spelled : (place : ℕ) (text : List ℕ) (n : Number) (unit : TimeUnit) (part : Part) → number_at place text ≡ Ok n → unit_at (place + n.length) (drop n.length text) ≡ Ok unit → part_of (place + n.length) n unit ≡ Ok part → part.ms ≤ 4398046511104 → (piece : Piece) × IsSpelledPart text part piece
made_part_is_spelled place text n unit part at after is short =
    elim (cases_Bool (nat_eq (n.thousandths * unit_ms unit % 1000) 0)) [
      | inr other ↦ let i = rw other at is in absurd (cc)
      | inl whole ↦
          let i = rw whole at is in
          let made : Part = record { ms = part_ms n unit; length = n.length + unit_length unit } in
          let e : made ≡ part = cc in
          let fine : n.thousandths * unit_ms unit % 1000 ≡ 0 = grind (arith, nat_tests) in
          let ms : part_ms n unit ≡ part.ms = ap (λ (p : Part). p.ms) e in
          let long : n.length + unit_length unit ≡ part.length = ap (λ (p : Part). p.length) e in
          let small : thousandths_of n ≤ 1000000000000 = small_number n unit part.ms ms short in
          let exact : part_ms n unit ≡ thousandths_of n * unit_ms unit / 1000 = let f : nat_lt 1000000000000 (thousandths_of n) ≡ false = grind (arith, nat_tests) in rw f refl in
          let piece : Piece = record { number = take n.length text; thousandths = thousandths_of n; unit = unit; ms = thousandths_of n * unit_ms unit / 1000 } in
          let rest : drop (unit_length unit) (drop n.length text) ≡ drop part.length text = drop-drop (unit_length unit) n.length text ∙ ap (λ k. drop k text) long in (
            piece,
            record {
              piece_of = record { spelled = number_is_spelled place text n at; most = small; whole_ms = whole_is_spelled n unit fine };
              text_of = sym (take-append-drop n.length text) ∙ ap (λ t. take n.length text ++ t) (unit_is_spelled (place + n.length) (drop n.length text) unit after ∙ ap (λ t. unit_text unit ++ t) rest)
                  ∙ sym (append_assoc (take n.length text) (unit_text unit) (drop part.length text));
              ms_of = sym exact ∙ ms;
              some = let h = unit_some unit in omega arith;
            },
          )
    ]

unit_of_part : (place : ℕ) (text : List ℕ) (n : Number) (part : Part) (r : Result TimeUnit NumError) → number_at place text ≡ Ok n → unit_at (place + n.length) (drop n.length text) ≡ r → (r >>= λ u. part_of (place + n.length) n u) ≡ Ok part → part.ms ≤ 4398046511104 → (piece : Piece) × IsSpelledPart text part piece
unit_of_part place text n part (Err why) at after is short = absurd (cc)
unit_of_part place text n part (Ok unit) at after is short = made_part_is_spelled place text n unit part at after is short

number_of_part : (place : ℕ) (text : List ℕ) (part : Part) (r : Result Number NumError) → number_at place text ≡ r → (r >>= λ n. unit_at (place + n.length) (drop n.length text) >>= λ u. part_of (place + n.length) n u) ≡ Ok part → part.ms ≤ 4398046511104 → (piece : Piece) × IsSpelledPart text part piece
number_of_part place text part (Err why) at is short = absurd (cc)
number_of_part place text part (Ok n) at is short = unit_of_part place text n part (unit_at (place + n.length) (drop n.length text)) at refl is short

-- what is read as a part is spelled as one
part_is_spelled : (place : ℕ) (text : List ℕ) (part : Part) → part_at place text ≡ Ok part → part.ms ≤ 4398046511104 → (piece : Piece) × IsSpelledPart text part piece
part_is_spelled place text part is short = number_of_part place text part (number_at place text) refl is short

-- the pieces of a text
record IsSpelled (text : List ℕ) (ms : ℕ) (pieces : List Piece) : Type 0 where
  each : ArePieces pieces
  text_of : text ≡ pieces_text pieces
  ms_of : ms ≡ pieces_ms pieces

with_rest : (text : List ℕ) (part : Part) (more total : ℕ) (pieces : List Piece) (piece : Piece) → IsSpelledPart text part piece → IsSpelled (drop part.length text) more pieces → part.ms + more ≡ total → IsSpelled text total (piece ∷ pieces)
with_rest text part more total pieces piece first rest sum = record {
  each = (first.piece_of, rest.each);
  text_of = first.text_of ∙ ap (λ t. piece_text piece ++ t) rest.text_of;
  ms_of = let e = first.ms_of in let f = rest.ms_of in omega arith;
}

ms_within : (ms total : ℕ) (r : Result ℕ NumError) → with_part ms r ≡ Ok total → ms ≤ total
ms_within ms total (Err why) is = absurd (cc)
ms_within ms total (Ok more) is = let e : ms + more ≡ total = cc in omega arith

-- what the parts of the shorter texts come to
abbrev ShorterAreSpelled : List ℕ → Type 0
ShorterAreSpelled text = (place : ℕ) (rest : List ℕ) (more : ℕ) → length rest < length text → parts_ms place 0 rest ≡ Ok more → more ≤ 4398046511104 → (pieces : List Piece) × IsSpelled rest more pieces

rest_is_spelled : (place : ℕ) (text : List ℕ) (total : ℕ) (part : Part) (piece : Piece) (r : Result ℕ NumError) → ShorterAreSpelled text → 0 < length text → IsSpelledPart text part piece → parts_ms (place + part.length) 0 (drop part.length text) ≡ r → with_part part.ms r ≡ Ok total → total ≤ 4398046511104 → (pieces : List Piece) × IsSpelled text total pieces
rest_is_spelled place text total part piece (Err why) shorter any first rest is short = absurd (cc)
rest_is_spelled place text total part piece (Ok more) shorter any first rest is short =
    let sum : part.ms + more ≡ total = cc in
    let less : length (drop part.length text) < length text = let h = first.some in omega (arith, length-drop part.length text) in
    let others = shorter (place + part.length) (drop part.length text) more less rest (omega arith) in
    (piece ∷ others.0, with_rest text part more total others.0 piece first others.1 sum)

first_is_spelled : (place b : ℕ) (bs : List ℕ) (total : ℕ) (r : Result Part NumError) → ShorterAreSpelled (b ∷ bs) → part_at place (b ∷ bs) ≡ r → parts_ms place 0 (b ∷ bs) ≡ Ok total → total ≤ 4398046511104 → (pieces : List Piece) × IsSpelled (b ∷ bs) total pieces
first_is_spelled place b bs total (Err why) shorter at is short = let e = parts_ms-fault place (b ∷ bs) why (omega arith) at in absurd (cc)
first_is_spelled place b bs total (Ok part) shorter at is short =
    let next = sym (ap (λ r. r >>= λ p. with_part p.ms (parts_ms (place + 1) (p.length - 1) bs)) at) ∙ is in
    let within = ms_within part.ms total (parts_ms (place + 1) (part.length - 1) bs) next in
    let first = part_is_spelled place (b ∷ bs) part at (omega arith) in
    let any : 0 < length (b ∷ bs) = omega arith in
    let rest = sym (parts_ms-cons place (b ∷ bs) part any at first.1.some) ∙ is in
    rest_is_spelled place (b ∷ bs) total part first.0 (parts_ms (place + part.length) 0 (drop part.length (b ∷ bs))) shorter any first.1 refl rest short

-- what is read as parts is spelled as pieces
parts_are_spelled : (most : ℕ) (text : List ℕ) → length text ≤ most → (place total : ℕ) → parts_ms place 0 text ≡ Ok total → total ≤ 4398046511104 → (pieces : List Piece) × IsSpelled text total pieces
parts_are_spelled most [] few place total is short = ([], record { each = tt; text_of = refl; ms_of = cc })
parts_are_spelled zero (b ∷ bs) few place total is short = absurd (omega arith)
parts_are_spelled (suc most) (b ∷ bs) few place total is short =
    first_is_spelled place b bs total (part_at place (b ∷ bs)) (λ p rest more less at fits. parts_are_spelled most rest (omega arith) p more at fits) refl is short

some_pieces : (text : List ℕ) (ms : ℕ) (pieces : List Piece) → IsSpelled text ms pieces → 0 < length text → 0 < length pieces
some_pieces text ms [] spelled any = let e = ap length spelled.text_of in absurd (omega arith)
some_pieces text ms (piece ∷ pieces) spelled any = omega arith

total_is_spelled : (text : List ℕ) (ms : ℕ) (r : Result ℕ NumError) → 0 < length text → parts_ms 0 0 text ≡ r → (r >>= λ total. cond (nat_lt longest total) (Err TooLarge) (Ok total)) ≡ Ok ms → IsDuration text ms × (ms ≤ 4398046511104)
total_is_spelled text ms (Err why) any parts is = absurd (cc)
total_is_spelled text ms (Ok total) any parts is =
    elim (cases_Bool (nat_lt longest total)) [
      | inl large ↦ let i = rw large at is in absurd (cc)
      | inr fits ↦
          let i = rw fits at is in
          let e : total ≡ ms = cc in
          let short : total ≤ 4398046511104 = grind (arith, nat_tests) in
          let found = parts_are_spelled (length text) text (omega arith) 0 total parts short in
          let P : ℕ → Type 0 = λ n. IsDuration text n × (n ≤ 4398046511104) in
          subst P e (inr (found.0, record { some = some_pieces text total found.0 found.1 any; each = found.1.each; spelled = found.1.text_of; total = found.1.ms_of }), short)
    ]

-- what is read as a duration is spelled as one
pub read_duration_is_spelled : (text : List ℕ) (ms : ℕ) → duration_ms_of text ≡ Ok ms → IsDuration text ms × (ms ≤ 4398046511104)
read_duration_is_spelled text ms is =
    elim (cases_Bool (nat_eq (length text) 0)) [
      | inl none ↦ let i = rw none at is in absurd (cc)
      | inr some ↦
          let i = rw some at is in
          let any : 0 < length text = grind (arith, nat_tests) in
          elim (cases_Bool (bytes_eq text (codes "0"))) [
            | inl nought ↦ let j = rw nought at i in let e : 0 ≡ ms = cc in (inl ((bytes_eq-Decides text (codes "0")).0 nought, sym e), omega arith)
            | inr other ↦
                let j = rw other at i in
                total_is_spelled text ms (parts_ms 0 0 text) any refl j
          ]
    ]

-- what is spelled as pieces has their sum
pieces_total : (text : List ℕ) (ms : ℕ) (pieces : List Piece) → HasPieces text ms pieces → parts_ms 0 0 text ≡ Ok ms
pieces_total text ms pieces spelled =
    ap (parts_ms 0 0) spelled.spelled ∙ pieces_are_read pieces 0 spelled.each ∙ ap (λ n. let r : Result ℕ NumError = Ok n in r) (sym spelled.total)

-- `0` alone is no pieces
not_nought : (text : List ℕ) (ms : ℕ) (pieces : List Piece) → HasPieces text ms pieces → text ≡ codes "0" → ⊥
not_nought text ms pieces spelled e =
    let f : parts_ms 0 0 (codes "0") ≡ Ok ms = ap (parts_ms 0 0) (sym e) ∙ pieces_total text ms pieces spelled in
    absurd (cc)

pieces_some : (pieces : List Piece) → ArePieces pieces → 0 < length pieces → 0 < length (pieces_text pieces)
pieces_some [] each some = absurd (omega arith)
pieces_some (piece ∷ pieces) each some =
    let h = number_some piece.number piece.thousandths each.0.spelled in
    let e = length-append (piece_text piece) (pieces_text pieces) in
    let f = length-append piece.number (unit_text piece.unit) in
    omega arith

-- what is spelled as a duration is read
pub spelled_duration_is_read : (text : List ℕ) (ms : ℕ) → IsDuration text ms → ms ≤ 4398046511104 → duration_ms_of text ≡ Ok ms
spelled_duration_is_read text ms (inl nought) short = rw (nought.0, nought.1) refl
spelled_duration_is_read text ms (inr found) short =
    let any : 0 < length text = let h = pieces_some found.0 found.1.each found.1.some in let e = ap length found.1.spelled in omega arith in
    let some : (length text == 0) ≡ false = grind (arith, nat_tests) in
    let other : bytes_eq text (codes "0") ≡ false = false_from_ne_true (bytes_eq text (codes "0")) (λ h. not_nought text ms found.0 found.1 ((bytes_eq-Decides text (codes "0")).0 h)) in
    let small : nat_lt longest ms ≡ false = grind (arith, nat_tests) in
    duration_is text some other ∙ ap (judged_after 0) (pieces_total text ms found.0 found.1) ∙ rw (zero-add, small) refl

pub one_duration : (text : List ℕ) (a b : ℕ) → IsDuration text a → IsDuration text b → a ≡ b
one_duration text a b (inl x) (inl y) = x.1 ∙ sym y.1
one_duration text a b (inl x) (inr y) = absurd (not_nought text b y.0 y.1 x.0)
one_duration text a b (inr x) (inl y) = absurd (not_nought text a x.0 x.1 y.0)
one_duration text a b (inr x) (inr y) =
    let e = pieces_total text a x.0 x.1 in
    let f = pieces_total text b y.0 y.1 in
    cc
