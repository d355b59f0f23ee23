-- Numbers and durations in other words: how they are spelled.
use Rattle.std.specs.Prelude.{◌≡◌, ◌⊎◌, ℕ, ◌+◌, ◌-◌, ◌*◌, ◌^◌, ◌<◌, ◌≤◌, List, [], ◌∷◌, ◌++◌, length, IsTrue, codes}
use Rattle.std.specs.List.{list_all}
use Rattle.std.specs.Char.{is_ascii_digit}
use Rattle.kn_num.specs.declared.duration.TimeUnit.{TimeUnit}
use Rattle.kn_num.specs.declared.duration.TimeUnit.TheVariants.{Hours, Minutes, Seconds, Milliseconds}
use Rattle.kn_num.specs.Number.{decimal_value}
use Rattle.kn_num.specs.Duration.{unit_ms}

-- one digit or more, and nothing else
pub record IsDigits (text : List ℕ) : Type 0 where
  pub some : 0 < length text
  pub all : IsTrue (list_all is_ascii_digit text)

-- digits alone write so many thousandths
pub record IsPlain (text : List ℕ) (thousandths : ℕ) : Type 0 where
  pub digits : IsDigits text
  pub value : thousandths ≡ 1000 * decimal_value text

-- digits, a point and one to three decimals write so many thousandths
pub record HasDecimals (text whole decimals : List ℕ) (thousandths : ℕ) : Type 0 where
  pub spelled : text ≡ whole ++ 46 ∷ decimals
  pub whole_part : IsDigits whole
  pub decimal_part : IsDigits decimals
  pub few : length decimals ≤ 3
  pub value : thousandths ≡ 1000 * decimal_value whole + decimal_value decimals * 10 ^ (3 - length decimals)

-- the text is a number of so many thousandths
abbrev pub IsNumber : List ℕ → ℕ → Type 0
IsNumber text thousandths = IsPlain text thousandths
    ⊎ ((whole : List ℕ) × ((decimals : List ℕ) × HasDecimals text whole decimals thousandths))

-- the letters of a unit
abbrev pub unit_text : TimeUnit → List ℕ
unit_text Hours = codes "h"
unit_text Minutes = codes "m"
unit_text Seconds = codes "s"
unit_text Milliseconds = codes "ms"

-- a part of a duration: how its number is spelled, its thousandths, its unit, and its milliseconds
pub record Piece : Type 0 where
  pub number : List ℕ
  pub thousandths : ℕ
  pub unit : TimeUnit
  pub ms : ℕ

-- a number of at most 10^9, which is whole milliseconds in its unit
pub record IsPiece (piece : Piece) : Type 0 where
  pub spelled : IsNumber piece.number piece.thousandths
  pub most : piece.thousandths ≤ 1000000000000
  pub whole_ms : piece.thousandths * unit_ms piece.unit ≡ 1000 * piece.ms

abbrev pub piece_text : Piece → List ℕ
piece_text piece = piece.number ++ unit_text piece.unit

-- one piece after another
abbrev pub pieces_text : List Piece → List ℕ
pieces_text [] = []
pieces_text (piece ∷ pieces) = piece_text piece ++ pieces_text pieces

abbrev pub pieces_ms : List Piece → ℕ
pieces_ms [] = 0
pieces_ms (piece ∷ pieces) = piece.ms + pieces_ms pieces

abbrev pub ArePieces : List Piece → Type 0
ArePieces [] = Unit {0}
ArePieces (piece ∷ pieces) = IsPiece piece × ArePieces pieces

-- one piece or more
pub record HasPieces (text : List ℕ) (ms : ℕ) (pieces : List Piece) : Type 0 where
  pub some : 0 < length pieces
  pub each : ArePieces pieces
  pub spelled : text ≡ pieces_text pieces
  pub total : ms ≡ pieces_ms pieces

-- the text is a duration of so many milliseconds: `0`, or pieces
abbrev pub IsDuration : List ℕ → ℕ → Type 0
IsDuration text ms = ((text ≡ codes "0") × (ms ≡ 0)) ⊎ ((pieces : List Piece) × HasPieces text ms pieces)
