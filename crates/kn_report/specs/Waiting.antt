-- Text that waits to be written, and rows behind the number of their activator.
use Rattle.std.specs.Prelude.{◌≡◌, ◌++◌, ◌∷◌, [], ℕ, List, Option}
use Rattle.std.specs.Fmt.{decimal}
use Rattle.std.specs.List.{flat_map}
use Rattle.std.specs.Io.KnownBytes.{Appends}
use Rattle.kn_event.specs.EntryLine.{entry_text}
use Rattle.kn_event.specs.declared.entry.Entry.{Entry}

-- a text came behind what waited, and the first of both was written
pub record Adds (old new : Option (List ℕ)) (before after text : List ℕ) : Type 0 where
  pub written : List ℕ
  pub held : Appends old new written
  pub all : before ++ text ≡ written ++ after

-- each row stands after its activator's number and a space
abbrev pub own_row : ℕ → Entry → List ℕ
own_row i e = (decimal i ++ 32 ∷ []) ++ entry_text e

unfoldable pub own_rows : ℕ → List Entry → List ℕ
own_rows i rows = flat_map (own_row i) rows
