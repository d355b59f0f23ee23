-- Setups of several revisions: a first line, as many setups, and then the end of the input.
use Rattle.std.specs.Prelude.{◌≡◌, ℕ, List, Option, None, Some, Result, Ok, Err, ⊤}
use Rattle.kn_journal.specs.declared.error.JournalError.{JournalError}
use Rattle.kn_journal.specs.declared.journal.Setup.{Setup}
use Rattle.kn_journal.specs.Bundle.{all_setups}
use Rattle.kn_journal.specs.Lines.{lines}
use Rattle.kn_journal.specs.Parts.{part}
use Rattle.kn_journal.specs.Telling.{Refused}

-- the lines are so many setups, and these
pub record AreListed (count : ℕ) (lines : List (List ℕ)) (setups : List Setup) : Type 0 where
  pub number : ℕ
  pub left : List (List ℕ)
  pub read : all_setups count lines ≡ Ok (part setups number left)

-- what an input that is told says of the setups that were read, or of the error: the first line that is refused
abbrev pub SaysSetups : ℕ → Option (List ℕ) → Result (List Setup) JournalError → Type 0
SaysSetups count None r = ⊤
SaysSetups count (Some xs) (Ok setups) = AreListed count (lines xs) setups
SaysSetups count (Some xs) (Err e) = Refused e (all_setups count (lines xs))
