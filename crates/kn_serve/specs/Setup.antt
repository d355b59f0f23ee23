-- A setup that stands alone: a first line, a setup, and then the end of the input.
use Rattle.std.specs.Prelude.{◌≡◌, ◌⊎◌, ◌≤◌, ◌+◌, ℕ, List, Option, None, Some, Result, Ok, Err, ⊤}
use Rattle.kn_preamble.specs.declared.first.FirstLine.TheVariants.{Journal as JournalLine}
use Rattle.kn_journal.specs.declared.error.JournalError.{JournalError}
use Rattle.kn_journal.specs.declared.journal.Opening.{Opening}
use Rattle.kn_journal.specs.declared.journal.Setup.{Setup}
use Rattle.kn_journal.specs.Causes.{Cause}
use Rattle.kn_journal.specs.Journal.{opening_part}
use Rattle.kn_journal.specs.Series.{nothing_part}
use Rattle.kn_journal.specs.Lines.{lines}
use Rattle.kn_journal.specs.Parts.{Part, part, then_part}
use Rattle.kn_journal.specs.Reading.{most_taken}
use Rattle.kn_journal.specs.Telling.{Refused}
use Rattle.kn_io.specs.Causes.{Rose}
use Rattle.kn_session.specs.Changes.{Change, became, was}

abbrev pub nothing_behind : Opening → ℕ → List (List ℕ) → Result (Part Opening) Cause
nothing_behind opening n lines = then_part (nothing_part n lines) (λ _ n left. Ok (part opening n left))

-- no line may follow
abbrev pub setup_alone : List (List ℕ) → Result (Part Opening) Cause
setup_alone lines = then_part (opening_part JournalLine 0 lines) nothing_behind

pub record IsAlone (lines : List (List ℕ)) (setup : Setup) : Type 0 where
  pub version : ℕ
  pub number : ℕ
  pub left : List (List ℕ)
  pub read : setup_alone lines ≡ Ok (part (record { version = version; setup = setup }) number left)

-- what an input that is told says of the setup that was read, or of the error: the first line that is refused
abbrev pub SaysSetup : Option (List ℕ) → Result Setup JournalError → Type 0
SaysSetup None r = ⊤
SaysSetup (Some xs) (Ok setup) = IsAlone (lines xs) setup
SaysSetup (Some xs) (Err e) = Refused e (setup_alone (lines xs))

-- its count of faults rose, or it gave as many bytes as are ever read
abbrev pub HasBrokenOff : {S : Type 0} → (S → ℕ) → (S → ℕ) → Change S → Type 0
HasBrokenOff faults given source = Rose (faults (was source)) (faults (became source)) ⊎ (given (was source) + most_taken ≤ given (became source))
