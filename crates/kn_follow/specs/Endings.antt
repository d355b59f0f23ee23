-- How following a journal ends.
use Rattle.std.specs.Prelude.{◌≡◌, ◌⊎◌, ℕ, ◌++◌, ◌≤◌, List, [], length, Option, None, Some, ⊤}
use Rattle.std.specs.Io.KnownBytes.{Appends, prepend_known}
use Rattle.kn_io.specs.Prefix.{AppendsPrefix}
use Rattle.kn_journal.specs.declared.error.JournalError.{JournalError}
use Rattle.kn_journal.specs.declared.error.JournalError.TheVariants as error
use Rattle.kn_journal.specs.declared.status.Status.{Status}
use Rattle.kn_journal.specs.declared.status.Status.TheVariants as status
use Rattle.kn_journal.specs.Causes.{Cause, error_of}
use Rattle.kn_journal.specs.Journal.{Verdict, bad, good, verdict_of_lines}
use Rattle.kn_journal.specs.Lines.{lines}
use Rattle.kn_journal.specs.Telling.{IsLineFault, refused_line}

abbrev pub status_of : JournalError → Status
status_of error.ReadFault = status.ReadFault
status_of error.Memory = status.Memory
status_of (error.BadFirstLine due) = status.BadSetup (error.BadFirstLine due)
status_of (error.BadSetup number why) = status.BadSetup (error.BadSetup number why)
status_of e = status.BadInput e

-- where no fault comes
abbrev pub status_by : Option Cause → Status
status_by None = status.Ok
status_by (Some cause) = status_of (error_of cause)

abbrev pub refusal_of : Verdict → Option Cause
refusal_of (good j) = None
refusal_of (bad j cause) = Some cause

-- what a replay, or any other reading of a journal, can end with
abbrev pub IsReplayed : Status → Type 0
IsReplayed status.Usage = ⊥
IsReplayed (status.SlotFault slot) = ⊥
IsReplayed status.ListenFault = ⊥
IsReplayed _ = ⊤

-- behind a start no memory is wanted
abbrev pub IsFollowed : Status → Type 0
IsFollowed status.Memory = ⊥
IsFollowed x = IsReplayed x

-- ---- what is written

-- of a text, and how it ends where no fault comes: all of it then; what a fault of the source leaves is said apart
abbrev pub Writes : List ℕ → Status → (List ℕ → Type 0) → Option (List ℕ) → Option (List ℕ) → Status → Type 0
Writes text end Breaks old new status.ReadFault = (front : List ℕ) × Appends old new front × Breaks front
Writes text end Breaks old new status.WriteFault = AppendsPrefix old new text
Writes text end Breaks old new status.Memory = Appends old new []
Writes text end Breaks old new result = (result ≡ end) × Appends old new text

-- what waits is written, and then the status is this one, or that failed
abbrev pub Stops : List ℕ → Option (List ℕ) → Option (List ℕ) → Status → Status → Type 0
Stops waiting old new end result = ((result ≡ end) × Appends old new waiting) ⊎ ((result ≡ status.WriteFault) × AppendsPrefix old new waiting)

-- ---- what is left of the input

-- a line that was read whole was refused
abbrev pub IsRefusal : Status → Type 0
IsRefusal (status.BadInput e) = IsLineFault e
IsRefusal (status.BadSetup e) = IsLineFault e
IsRefusal _ = ⊥

-- the line that it names; a bad first line is line 1
abbrev pub line_of : Status → Option ℕ
line_of (status.BadInput e) = refused_line (Some 1) e
line_of (status.BadSetup e) = refused_line (Some 1) e
line_of _ = None

-- the lines up to that one were taken, which are refused so by themselves, and all that came after them is unread
abbrev pub IsBehind : Status → Option (List ℕ) → Option (List ℕ) → Type 0
IsBehind result None new = ⊤
IsBehind result (Some xs) None = ⊥
IsBehind result (Some xs) (Some ys) = (own : List (List ℕ)) × (lines xs ≡ own ++ lines ys) × (line_of result ≡ Some (length own)) × (status_by (refusal_of (verdict_of_lines own)) ≡ result)

-- so what is left of the bytes stands behind that line and at most 65,536 bytes more, which were read ahead
abbrev pub LeavesBehind : Status → Option (List ℕ) → Option (List ℕ) → Type 0
LeavesBehind result old left = (ahead : List ℕ) × (length ahead ≤ 65536) × IsBehind result old (prepend_known ahead left)
