-- Why a journal is refused: the first line that the grammar refuses. Lines are counted from 1, places in a line from 0.
use Rattle.std.specs.Prelude.{ℕ, ◌≡◌, Option, None, Some, ⊤}
use Rattle.kn_event.specs.declared.fault.LineError.{LineError}
use Rattle.kn_preamble.specs.declared.error.SetupError.{SetupError}
use Rattle.kn_preamble.specs.declared.first.FirstLine.{FirstLine}
use Rattle.kn_journal.specs.declared.error.JournalError.{JournalError}
use Rattle.kn_journal.specs.declared.error.JournalError.TheVariants as error

pub data Cause : Type 0 where
  -- more than 65,536 bytes without the end
  line_too_long : (line : ℕ) → Cause
  -- line 1 is not the one that was due
  bad_first_line : (due : FirstLine) → Cause
  bad_setup : (line : ℕ) → (why : SetupError) → Cause
  bad_line : (line : ℕ) → (why : LineError) → Cause
  -- the last time, and the line's own, which is less
  time_back : (line : ℕ) → (before : ℕ) → (own : ℕ) → Cause
  time_too_large : (line : ℕ) → Cause
  -- the input ends where a line is due
  no_end : Cause
  after_end : (line : ℕ) → Cause
  -- one job too many in a workload
  too_many : (line : ℕ) → Cause

-- what a reader answers for it
abbrev pub error_of : Cause → JournalError
error_of (line_too_long line) = error.LineTooLong line
error_of (bad_first_line due) = error.BadFirstLine due
error_of (bad_setup line why) = error.BadSetup line why
error_of (bad_line line why) = error.BadLine line why
error_of (time_back line before own) = error.TimeBack line before own
error_of (time_too_large line) = error.TimeTooLarge line
error_of no_end = error.NoEnd
error_of (after_end line) = error.AfterEnd line
error_of (too_many line) = error.TooMany line

-- no line is refused, but maybe for its being missing
abbrev pub IsGoodSoFar : Option Cause → Type 0
IsGoodSoFar None = ⊤
IsGoodSoFar (Some cause) = cause ≡ no_end
