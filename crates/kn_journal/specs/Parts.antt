-- Parts of a journal, read from its lines one after the other.
use Rattle.std.specs.Prelude.{◌≡◌, ℕ, ◌+◌, ◌++◌, List, [], ◌∷◌, length, Result, Ok, Err, if◌then◌else◌}
use Rattle.kn_journal.specs.Lines.{fits}
use Rattle.kn_journal.specs.Causes.{Cause, line_too_long, no_end}

-- what was read, the number of the last line read, and the lines that are left
pub record Part (T : Type 0) : Type 0 where
  pub value : T
  pub number : ℕ
  pub left : List (List ℕ)

abbrev pub part : {T : Type 0} → T → ℕ → List (List ℕ) → Part T
part value number left = record { value = value; number = number; left = left }

-- after line n, the next line with its number, and what is left
abbrev pub with_line : {T : Type 0} → ℕ → List (List ℕ) → (ℕ → List ℕ → List (List ℕ) → Result T Cause) → Result T Cause
with_line n [] next = Err no_end
with_line n (line ∷ more) next = if fits line then next (n + 1) line more else Err (line_too_long (n + 1))

-- one part, and then the next one
abbrev pub then_part : {S T : Type 0} → Result (Part S) Cause → (S → ℕ → List (List ℕ) → Result T Cause) → Result T Cause
then_part (Ok p) next = next p.value p.number p.left
then_part (Err cause) next = Err cause

-- these lines, which stand after line m, give this, up to line n, and leave those; the lines before them give it by themselves,
-- whatever follows
pub record IsWhole {T : Type 0} (m : ℕ) (read : List (List ℕ) → Result (Part T) Cause) (ls : List (List ℕ)) (x : T) (n : ℕ) (left : List (List ℕ)) : Type 0 where
  pub own : List (List ℕ)
  pub split : ls ≡ own ++ left
  pub count : m + length own ≡ n
  pub alone : (later : List (List ℕ)) → read (own ++ later) ≡ Ok (part x n later)
