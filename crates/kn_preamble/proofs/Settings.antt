-- The numbers of a setup line, one after the other.
use Rattle.std.proofs.Common.{◌≡◌, ◌≢◌, ◌+◌, ◌<◌, ℕ, List, [], ◌∷◌, ◌++◌, length, refl, ap, arith}
use Rattle.std.specs.Prelude.{Result, Ok, Err}
use Rattle.std.specs.List.{slice_split}
use Rattle.std.proofs.lemmas.List.Splits.{length-slice_split}
use Rattle.kn_event.specs.Fields.{fields, fields_behind, is_space}
use Rattle.kn_preamble.specs.declared.error.SetupError.{SetupError}
use Rattle.kn_preamble.specs.declared.error.SetupError.TheVariants.{BadField}
use Rattle.kn_preamble.specs.declared.setting.Setting.{Setting}
use Rattle.kn_preamble.specs.declared.setting.Placed.{Placed}
use Rattle.kn_preamble.specs.SetupLine.{placed_due}

-- these numbers, and then those of the rest
abbrev pub with_all : List Placed → Result (List Placed) SetupError → Result (List Placed) SetupError
with_all ps (Ok more) = Ok (ps ++ more)
with_all ps (Err why) = Err why

some_field : (bs : List ℕ) → fields bs ≢ []
unfolding fields
some_field bs e = let n : length (slice_split is_space bs) ≡ 0 = ap length e in omega (arith, length-slice_split is_space bs)

more-due : (at : ℕ) (bs : List ℕ) → 0 < length bs → placed_due at [] (fields_behind bs) ≡ Err (BadField (at + 1))
more-due at [] h = absurd (omega arith)
more-due at (b ∷ rest) h = by_fields (fields rest) refl
  where
    by_fields : (more : List (List ℕ)) → fields rest ≡ more → placed_due at [] more ≡ Err (BadField (at + 1))
    by_fields [] e = absurd (some_field rest e)
    by_fields (field ∷ more) e = refl

-- a field that no setting is left for
pub one_too_many : (ps : List Placed) (at : ℕ) (settings : List Setting) (bs : List ℕ) → settings ≡ [] → 0 < length bs
    → with_all ps (placed_due at settings (fields_behind bs)) ≡ Err (BadField (at + 1))
one_too_many ps at settings bs h k = rw (h, more-due at bs k) refl
