-- What a call that reads does to its input and to its source.
use Rattle.std.specs.Prelude.{◌≡◌, ◌⊎◌, ◌≤◌, ℕ, List, Option, None, Some, Result, Ok, Err}
use Rattle.kn_io.specs.Causes.{Rose}
use Rattle.kn_io.specs.declared.traits.Failed.{Failed}
use Rattle.kn_io.specs.declared.traits.Source.{Ghosts}
use Rattle.kn_io.specs.declared.traits.Faulty.{Ghosts as Counted}
use Rattle.kn_journal.specs.declared.error.JournalError.{JournalError}
use Rattle.kn_journal.specs.declared.error.JournalError.TheVariants as error
use Rattle.kn_journal.specs.declared.lines.NoLine.{NoLine}
use Rattle.kn_journal.specs.declared.lines.NoLine.TheVariants as no_line
use Rattle.kn_journal.specs.Reading.{Ahead, IsBalanced, IsSpent, most_taken, unread}

-- the error that was answered, if one was
abbrev pub error_in : {T : Type 0} → Result T JournalError → Option JournalError
error_in (Ok x) = None
error_in (Err e) = Some e

-- what that is where a line was due; of one that is too long only the caller knows the number
abbrev pub line_error : {T : Type 0} → Result T NoLine → Option JournalError
line_error (Ok x) = None
line_error (Err no_line.Fault) = Some error.ReadFault
line_error (Err no_line.TooLong) = None

-- what that is where a byte was due
abbrev pub byte_error : {T : Type 0} → Result T Failed → Option JournalError
byte_error (Ok x) = None
byte_error (Err failed) = Some error.ReadFault

-- Bytes were taken of the input and of its source, which tells this and counts its faults so, and each was counted. At a fault of the
-- source the call stopped amid what it reads, with nothing ahead unless all bytes were taken that may be.
pub record Draws {X : Type 0} (Amid : Option (List ℕ) → Option (List ℕ) → Type 0) (e : Option JournalError) (old new : Ahead) (own : Ghosts X) (faulty : Counted X) (before now : X) : Type 0 where
  pub amid : e ≡ Some error.ReadFault → Amid (unread old (own.left before)) (unread new (own.left now))
  pub spent : e ≡ Some error.ReadFault → IsSpent new
  pub fault : e ≡ Some error.ReadFault → Rose (faulty.faults before) (faulty.faults now) ⊎ (new.taken ≡ most_taken)
  pub grows : old.taken ≤ new.taken
  pub balance : IsBalanced old new (own.given before) (own.given now)
  pub never_falls : faulty.faults before ≤ faulty.faults now
  pub apart_stays : own.apart now ≡ own.apart before
