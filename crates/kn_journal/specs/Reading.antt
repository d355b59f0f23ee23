-- An input that is taken line by line. Of a source that does not tell its bytes nothing is said.
use Rattle.std.specs.Prelude.{◌≡◌, ◌⊎◌, ℕ, ◌+◌, ◌^◌, ◌<◌, ◌≤◌, Bool, true, false, List, [], ◌∷◌, ◌++◌, Contains, length, Option, None, Some, ⊤}
use Rattle.std.specs.Io.KnownBytes.{prepend_known}
use Rattle.kn_journal.specs.Lines.{lines, line_most}

-- how many bytes may be taken of one input
abbrev pub most_taken : ℕ
most_taken = 2 ^ 56

-- the bytes read from the source and not taken yet, and how many bytes were taken so far
pub record Ahead : Type 0 where
  pub ahead : List ℕ
  pub taken : ℕ

-- what may still be taken: the bytes read ahead, and then what the source has left
abbrev pub unread : Ahead → Option (List ℕ) → Option (List ℕ)
unread input left = prepend_known input.ahead left

-- the first byte was taken, or nothing at the end
abbrev pub TakesByte : Option (List ℕ) → Option (List ℕ) → Option ℕ → Type 0
TakesByte None new byte = ⊤
TakesByte (Some xs) None byte = ⊥
TakesByte (Some xs) (Some ys) None = (xs ≡ []) × (ys ≡ [])
TakesByte (Some xs) (Some ys) (Some b) = xs ≡ b ∷ ys

-- a byte that was taken is counted
abbrev pub taken_with : ℕ → Option ℕ → ℕ
taken_with taken None = taken
taken_with taken (Some b) = taken + 1

-- the first line was taken with its end, or nothing at the end of the input
abbrev pub TakesLine : Option (List ℕ) → Option (List ℕ) → Bool → List ℕ → Type 0
TakesLine None new more line = ⊤
TakesLine (Some xs) None more line = ⊥
TakesLine (Some xs) (Some ys) true line = lines xs ≡ line ∷ lines ys
TakesLine (Some xs) (Some ys) false line = xs ≡ []

abbrev pub EndsWithLf : List ℕ → Type 0
EndsWithLf text = (front : List ℕ) × (text ≡ front ++ 10 ∷ [])

-- a text that was taken ends with LF, or it was cut: it ends where the input does
abbrev pub IsCutOff : Bool → List ℕ → List ℕ → Type 0
IsCutOff true text ys = ys ≡ []
IsCutOff false text ys = EndsWithLf text

-- one line or more were taken, of which the last one was cut or not
abbrev pub TakesText : Bool → Option (List ℕ) → Option (List ℕ) → Type 0
TakesText cut None new = ⊤
TakesText cut (Some xs) None = ⊥
TakesText cut (Some xs) (Some ys) = (text : List ℕ) × (xs ≡ text ++ ys) × IsCutOff cut text ys

-- no line begins in these bytes and ends behind them
abbrev pub AreWhole : List ℕ → List ℕ → Type 0
AreWhole text ys = (text ≡ []) ⊎ (EndsWithLf text ⊎ (ys ≡ []))

-- where the input said its end, nothing of it is unread
abbrev pub IsOver : Bool → Option (List ℕ) → Type 0
IsOver cut None = ⊤
IsOver true (Some xs) = xs ≡ []
IsOver false (Some xs) = ⊤

-- some first bytes were taken, maybe none, but no LF
abbrev pub TakesPart : Option (List ℕ) → Option (List ℕ) → Type 0
TakesPart None new = ⊤
TakesPart (Some xs) None = ⊥
TakesPart (Some xs) (Some ys) = (part : List ℕ) × (xs ≡ part ++ ys) × (¬ Contains part 10)

-- the first line is longer than a line may be
abbrev pub HasLongLine : Option (List ℕ) → Type 0
HasLongLine None = ⊤
HasLongLine (Some xs) = (l : List ℕ) × (ls : List (List ℕ)) × (lines xs ≡ l ∷ ls) × (line_most < length l)

-- each byte that is gone was counted
abbrev pub Counts : Option (List ℕ) → Option (List ℕ) → ℕ → ℕ → Type 0
Counts None new before now = ⊤
Counts (Some xs) None before now = ⊥
Counts (Some xs) (Some ys) before now = before + length xs ≡ now + length ys

-- each byte that the source gave was taken or is ahead
abbrev pub IsBalanced : Ahead → Ahead → ℕ → ℕ → Type 0
IsBalanced old new given_before given_now = given_before + (new.taken + length new.ahead) ≡ given_now + (old.taken + length old.ahead)

-- nothing is ahead, or all bytes were taken that may be
abbrev pub IsSpent : Ahead → Type 0
IsSpent input = (input.taken ≤ most_taken) × ((input.ahead ≡ []) ⊎ (input.taken ≡ most_taken))

-- nothing is left of the bytes
abbrev pub EndsThere : Option (List ℕ) → Option (List ℕ) → Type 0
EndsThere None new = ⊤
EndsThere (Some xs) new = new ≡ Some []
