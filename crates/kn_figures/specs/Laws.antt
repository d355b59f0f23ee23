-- What holds of the kinds and of counts, whatever the rows.
use Rattle.std.specs.Prelude.{ℕ, ◌≡◌, ◌≤◌, List, [], ◌∷◌, ◌++◌, Some, slice_get, ⊤}
use Rattle.kn_event.specs.declared.entry.Row.{Row}
use Rattle.kn_event.specs.EntryLine.{row_text}
use Rattle.kn_trace.specs.Trace.{Trace}
use Rattle.kn_figures.specs.declared.kind.Kind.{Kind}
use Rattle.kn_figures.specs.Kinds.{all_kinds, kind_of, name_of, place_of}
use Rattle.kn_figures.specs.Tallies.{count_of}

-- nothing, or a space and more
abbrev pub EndsWord : List ℕ → Type 0
EndsWord [] = ⊤
EndsWord (b ∷ bs) = b ≡ 32

-- what a report writes behind a row's time is a space, this word, and nothing else of the same word
abbrev pub IsWrittenBy : List ℕ → Row → Type 0
IsWrittenBy word x = (rest : List ℕ) × (row_text x ≡ (32 ∷ word) ++ rest) × EndsWord rest

-- each row is written by its kind's word
abbrev pub NamesRows : Type 0
NamesRows = (x : Row) → IsWrittenBy (name_of (kind_of x)) x

-- each kind stands among all at its place
abbrev pub HavePlaces : Type 0
HavePlaces = (k : Kind) → slice_get all_kinds (place_of k) ≡ Some k

-- no count falls when there are more entries
abbrev pub NeverFall : Type 0
NeverFall = (k : Kind) (c more : Trace) → count_of k c ≤ count_of k (c ++ more)
