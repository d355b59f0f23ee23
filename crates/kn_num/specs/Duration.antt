-- Durations as texts: `0`, or one or more parts, each a number and its unit.
use Rattle.std.specs.Prelude.{ℕ, zero, suc, ◌+◌, ◌-◌, ◌*◌, ◌/◌, ◌%◌, ◌==◌, nat_eq, nat_lt, bytes_eq, List, [], ◌∷◌, length, drop, Result, Ok, Err, if◌then◌else◌, codes}
use Rattle.std.specs.List.{starts_with}
use Rattle.kn_num.specs.declared.error.NumError.{NumError}
use Rattle.kn_num.specs.declared.error.NumError.TheVariants.{Empty, TooFine, TooLarge, NoUnit}
use Rattle.kn_num.specs.declared.number.Number.{Number}
use Rattle.kn_num.specs.declared.duration.TimeUnit.{TimeUnit}
use Rattle.kn_num.specs.declared.duration.TimeUnit.TheVariants.{Hours, Minutes, Seconds, Milliseconds}
use Rattle.kn_num.specs.declared.duration.Part.{Part}
use Rattle.kn_num.specs.Number.{◌>>=◌, number_at, thousandths_of}

abbrev pub unit_ms : TimeUnit → ℕ
unit_ms Hours = 3600000
unit_ms Minutes = 60000
unit_ms Seconds = 1000
unit_ms Milliseconds = 1

abbrev pub unit_length : TimeUnit → ℕ
unit_length Hours = 1
unit_length Minutes = 1
unit_length Seconds = 1
unit_length Milliseconds = 2

-- the unit at the front of a text, whose first byte stands at this place; `ms` is taken before `m`
abbrev pub unit_at : ℕ → List ℕ → Result TimeUnit NumError
unit_at place text =
    if starts_with nat_eq text (codes "ms") then Ok Milliseconds
    else (if starts_with nat_eq text (codes "h") then Ok Hours
    else (if starts_with nat_eq text (codes "m") then Ok Minutes
    else (if starts_with nat_eq text (codes "s") then Ok Seconds
    else Err (NoUnit place))))

-- 2^42 ms
abbrev pub longest : ℕ
longest = 4398046511104

-- the milliseconds of a part; one whose number is above 10^9 counts as longer than every duration
abbrev pub part_ms : Number → TimeUnit → ℕ
part_ms number unit =
    if nat_lt 1000000000000 (thousandths_of number) then longest + 1
    else thousandths_of number * unit_ms unit / 1000

-- a number and the unit after it, which stands at this place; the part is whole milliseconds
abbrev pub part_of : ℕ → Number → TimeUnit → Result Part NumError
part_of place number unit =
    if number.thousandths * unit_ms unit % 1000 == 0
    then Ok (record { ms = part_ms number unit; length = number.length + unit_length unit })
    else Err (TooFine place)

-- the part at the front of a text, whose first byte stands at this place
abbrev pub part_at : ℕ → List ℕ → Result Part NumError
part_at place text = number_at place text >>= λ number.
    unit_at (place + number.length) (drop number.length text) >>= λ unit.
    part_of (place + number.length) number unit

-- the milliseconds of all parts of a text, whose first byte stands at this place; so many bytes of it belong to the
-- part before
abbrev pub parts_ms : ℕ → ℕ → List ℕ → Result ℕ NumError
parts_ms place before [] = Ok 0
parts_ms place (suc before) (byte ∷ bytes) = parts_ms (place + 1) before bytes
parts_ms place zero (byte ∷ bytes) = part_at place (byte ∷ bytes) >>= λ part.
    parts_ms (place + 1) (part.length - 1) bytes >>= λ rest.
    Ok (part.ms + rest)

-- a duration of at most 2^42 ms
abbrev pub duration_ms_of : List ℕ → Result ℕ NumError
duration_ms_of text =
    if length text == 0 then Err Empty
    else (if bytes_eq text (codes "0") then Ok 0
    else (parts_ms 0 0 text >>= λ ms. if nat_lt longest ms then Err TooLarge else Ok ms))
