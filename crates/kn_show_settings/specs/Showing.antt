-- What is shown of an input.
use Rattle.std.specs.Prelude.{◌≡◌, ℕ, ◌≤◌, List, [], length, Option, None, Some, Result, Ok, Err, ⊤}
use Rattle.std.specs.Io.KnownBytes.{Appends, prepend_known}
use Rattle.kn_io.specs.Prefix.{AppendsPrefix}
use Rattle.kn_preamble.specs.declared.first.FirstLine.TheVariants.{Journal as JournalLine}
use Rattle.kn_journal.specs.declared.journal.Opening.{Opening}
use Rattle.kn_journal.specs.declared.status.Status.{Status}
use Rattle.kn_journal.specs.declared.status.Status.TheVariants as status
use Rattle.kn_journal.specs.Causes.{Cause, error_of}
use Rattle.kn_journal.specs.Journal.{opening_part}
use Rattle.kn_journal.specs.Lines.{lines}
use Rattle.kn_journal.specs.Parts.{Part}
use Rattle.kn_follow.specs.Endings.{status_of}
use Rattle.kn_show_settings.specs.Settings.{settings_text}

-- the first line and the setup of some bytes, whatever follows them, or the first cause
abbrev pub opening_of : List ℕ → Result (Part Opening) Cause
opening_of bytes = opening_part JournalLine 0 (lines bytes)

-- all of a text, or some first bytes where writing failed
abbrev pub ShowsText : List ℕ → Option (List ℕ) → Option (List ℕ) → Status → Type 0
ShowsText text old new status.Ok = Appends old new text
ShowsText text old new status.WriteFault = AppendsPrefix old new text
ShowsText text old new status.ReadFault = Appends old new []
ShowsText text old new status.Memory = Appends old new []
ShowsText text old new status.Usage = ⊥
ShowsText text old new (status.BadInput e) = ⊥
ShowsText text old new (status.BadSetup e) = ⊥
ShowsText text old new (status.SlotFault slot) = ⊥
ShowsText text old new status.ListenFault = ⊥

-- nothing, and the cause, unless reading or memory failed
abbrev pub ShowsCause : Cause → Option (List ℕ) → Option (List ℕ) → Status → Type 0
ShowsCause cause old new status.ReadFault = Appends old new []
ShowsCause cause old new status.Memory = Appends old new []
ShowsCause cause old new result = (result ≡ status_of (error_of cause)) × Appends old new []

abbrev pub ShowsOpening : Result (Part Opening) Cause → Option (List ℕ) → Option (List ℕ) → Status → Type 0
ShowsOpening (Ok p) old new result = ShowsText (settings_text p.value.setup) old new result
ShowsOpening (Err cause) old new result = ShowsCause cause old new result

-- of an input with these bytes: the settings of its setup; what stands behind that isn't judged
abbrev pub ShowsInput : Option (List ℕ) → Option (List ℕ) → Option (List ℕ) → Status → Type 0
ShowsInput None old new result = ⊤
ShowsInput (Some bytes) old new result = ShowsOpening (opening_of bytes) old new result

-- the lines up to the setup's last one were taken
abbrev pub TakesOpening : Option (List ℕ) → Option (List ℕ) → Type 0
TakesOpening None new = ⊤
TakesOpening (Some xs) None = ⊥
TakesOpening (Some xs) (Some ys) = (p : Part Opening) × (opening_of xs ≡ Ok p) × (p.left ≡ lines ys)

-- and at most 65,536 bytes more, which were read ahead
abbrev pub LeavesOpening : Option (List ℕ) → Option (List ℕ) → Type 0
LeavesOpening old left = (ahead : List ℕ) × (length ahead ≤ 65536) × TakesOpening old (prepend_known ahead left)

-- the settings were read
abbrev pub IsShown : Status → Type 0
IsShown status.Ok = ⊤
IsShown status.WriteFault = ⊤
IsShown _ = ⊥
