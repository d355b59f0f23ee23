-- What the words after the program's name ask for.
use Rattle.std.specs.Prelude.{ℕ, Bool, ◌&&◌, List, [], ◌∷◌, Option, None, Some, codes, nat_le, if◌then◌else◌}
use Rattle.std.specs.Str.{bytes_eq}
use Rattle.kn_event.specs.Numbers.{number_of}
use Rattle.kn_replay.specs.declared.command.Command.{Command}
use Rattle.kn_replay.specs.declared.command.Command.TheVariants as command

-- how many events a generated journal has
abbrev pub is_count : ℕ → Bool
is_count n = nat_le 5 n && nat_le n 1000000

abbrev pub generate_of : Option ℕ → Option ℕ → Option Command
generate_of (Some seed) (Some count) = if is_count count then Some (command.Generate seed count) else None
generate_of _ _ = None

-- the greatest number of a bundle's journal
abbrev pub journal_most : ℕ
journal_most = 15

abbrev pub replay_of : Option ℕ → Option Command
replay_of None = None
replay_of (Some k) = if nat_le k journal_most then Some (command.Bundle k) else None

-- the one word `replay`, `simulate` or `slices`; or `replay` and the number of a journal of a bundle, from 0; or `generate`, a seed and a
-- count; all numbers are spelled as those of a journal
unfoldable pub command_of : List (List ℕ) → Option Command
command_of (word ∷ []) =
    if bytes_eq word (codes "replay") then Some command.Replay else (if bytes_eq word (codes "simulate") then Some command.Simulate
    else (if bytes_eq word (codes "slices") then Some command.Slices else None))
command_of (word ∷ number ∷ []) = if bytes_eq word (codes "replay") then replay_of (number_of number) else None
command_of (word ∷ seed ∷ count ∷ []) = if bytes_eq word (codes "generate") then generate_of (number_of seed) (number_of count) else None
command_of _ = None
