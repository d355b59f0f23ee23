-- What contracts see of a caller in memory.
use Rattle.std.specs.Prelude.{ℕ, ◌+◌, ◌-◌, List, [], ◌∷◌, length, Option, None, Some, slice_get, refl}
use Rattle.std.proofs.Common.{arith}
use Rattle.kn_io.specs.Callers.{IsPaired, texts_of}
use Rattle.kn_io.specs.Memory.{Plan}
use Rattle.kn_io.specs.declared.records.Taken.{Taken}

-- the connections taken, what was written since, what is left of the last one's input, the inputs to come, how many
-- bytes were given and how many were written in all, how many may be written in all, how many a read gives at most,
-- and the calls
pub record Talking : Type 0 where
  pub met : List Taken
  pub held : List ℕ
  pub left : List ℕ
  pub coming : List (List ℕ)
  pub given : ℕ
  pub written : ℕ
  pub room : ℕ
  pub piece : ℕ
  pub plan : Plan

-- what was written before each connection, and its input, in turn
unfoldable pub kept_of : List Taken → List (List ℕ)
kept_of [] = []
kept_of (t ∷ ts) = t.text ∷ t.stream ∷ kept_of ts

-- they are an even number
pub kept_of-paired : (met : List Taken) → IsPaired (Some (kept_of met))
unfolding kept_of
kept_of-paired [] = (0, refl)
kept_of-paired (t ∷ ts) = let rest = kept_of-paired ts in (rest.0 + 1, omega (arith, rest.1))

-- its texts
abbrev pub texts : Talking → List (List ℕ)
texts caller = texts_of (kept_of caller.met) caller.held

-- the input of the last connection, or none before the first
abbrev pub input_of : Option Taken → List ℕ
input_of None = []
input_of (Some t) = t.stream

abbrev pub last_input : List Taken → List ℕ
last_input met = input_of (slice_get met (length met - 1))
