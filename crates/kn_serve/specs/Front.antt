-- A setup that is read up to its last line, whatever stands behind it.
use Rattle.std.specs.Prelude.{◌≡◌, ℕ, List, Option, None, Some, Result, Ok, Err, ⊤}
use Rattle.kn_preamble.specs.declared.first.FirstLine.TheVariants.{Journal as JournalLine}
use Rattle.kn_journal.specs.declared.error.JournalError.{JournalError}
use Rattle.kn_journal.specs.declared.journal.Setup.{Setup}
use Rattle.kn_journal.specs.Journal.{opening_part}
use Rattle.kn_journal.specs.Lines.{lines}
use Rattle.kn_journal.specs.Parts.{part}
use Rattle.kn_journal.specs.Telling.{Refused}

-- a first line and this setup stand there, and then any lines
pub record IsFront (lines : List (List ℕ)) (setup : Setup) : Type 0 where
  pub version : ℕ
  pub number : ℕ
  pub left : List (List ℕ)
  pub read : opening_part JournalLine 0 lines ≡ Ok (part (record { version = version; setup = setup }) number left)

-- what an input that is told says of the setup that was read, or of the error: the first line that is refused
abbrev pub SaysFront : Option (List ℕ) → Result Setup JournalError → Type 0
SaysFront None r = ⊤
SaysFront (Some xs) (Ok setup) = IsFront (lines xs) setup
SaysFront (Some xs) (Err e) = Refused e (opening_part JournalLine 0 (lines xs))
