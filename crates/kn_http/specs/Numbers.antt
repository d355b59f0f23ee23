-- Numbers in decimal digits.
use Rattle.std.specs.Prelude.{ℕ, Bool, ◌&&◌, ◌==◌, nat_lt, List, length}
use Rattle.std.specs.List.{list_all}
use Rattle.std.specs.Char.{is_ascii_digit}
use Rattle.std.specs.Str.Parse.{digits_value}

-- one digit or more, and nothing else
abbrev pub are_digits : List ℕ → Bool
are_digits value = nat_lt 0 (length value) && list_all is_ascii_digit value

-- digits that say so many
abbrev pub says : ℕ → List ℕ → Bool
says count value = are_digits value && (digits_value 10 value == count)
