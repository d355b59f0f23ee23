-- The lines of an input.
use Rattle.std.specs.Prelude.{ℕ, ◌-◌, Bool, false, cond, ◌&&◌, ◌==◌, nat_le, nat_lt, slice_index, List, [], ◌∷◌, ◌++◌, length}

abbrev pub begins_with_lf : List ℕ → Bool
begins_with_lf [] = false
begins_with_lf (b ∷ bs) = b == 10

-- all CRs that stand right before an LF are dropped
unfoldable pub without_crs : List ℕ → List ℕ
without_crs [] = []
without_crs (b ∷ bs) =
    let rest = without_crs bs in
    cond (b == 13 && begins_with_lf rest) rest (b ∷ rest)

-- the byte in front of the first line
abbrev pub onto_first : ℕ → List (List ℕ) → List (List ℕ)
onto_first b [] = (b ∷ []) ∷ []
onto_first b (line ∷ lines) = (b ∷ line) ∷ lines

-- a line ends with LF; bytes after the last LF are a line too
unfoldable pub lines_at_lf : List ℕ → List (List ℕ)
lines_at_lf [] = []
lines_at_lf (b ∷ bs) = cond (b == 10) ([] ∷ lines_at_lf bs) (onto_first b (lines_at_lf bs))

-- the lines of these bytes, without their ends
unfoldable pub lines : List ℕ → List (List ℕ)
lines bytes = lines_at_lf (without_crs bytes)

-- how long a line may be, in bytes without its end
abbrev pub line_most : ℕ
line_most = 65536

abbrev pub fits : List ℕ → Bool
fits line = nat_le (length line) line_most

-- of the lines of an input only the last one may end so, where no LF followed it
abbrev pub ends_with_cr : List ℕ → Bool
ends_with_cr line = nat_lt 0 (length line) && (slice_index line (length line - 1) == 13)

-- a text of these lines, each with an LF
abbrev pub text_of : List (List ℕ) → List ℕ
text_of [] = []
text_of (line ∷ more) = line ++ 10 ∷ text_of more
