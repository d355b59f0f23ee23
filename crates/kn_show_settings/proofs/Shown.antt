-- What is shown of an input.
use Rattle.std.proofs.Common.{ℕ, List, refl, sym, ap}
use Rattle.std.specs.Prelude.{Option, None, Some, Result, Ok, Err}
use Rattle.std.specs.Io.KnownBytes.{Appends}
use Rattle.std.proofs.KnownBytes.{Appends-nil}
use Rattle.kn_io.specs.Prefix.{AppendsPrefix}
use Rattle.kn_journal.specs.declared.error.JournalError.{JournalError}
use Rattle.kn_journal.specs.declared.error.JournalError.TheVariants as error
use Rattle.kn_preamble.specs.declared.first.FirstLine.TheVariants.{Journal as JournalLine}
use Rattle.kn_journal.specs.declared.journal.Opening.{Opening}
use Rattle.kn_journal.specs.declared.status.Status.TheVariants as status
use Rattle.kn_journal.specs.Causes.{Cause}
use Rattle.kn_journal.specs.Journal.{opening_part}
use Rattle.kn_journal.specs.Lines.{lines}
use Rattle.kn_journal.specs.Parts.{Part, part}
use Rattle.kn_journal.specs.Telling.{Gives, Refuses}
use Rattle.kn_follow.specs.Endings.{status_of}
use Rattle.kn_show_settings.specs.Settings.{settings_text}
use Rattle.kn_show_settings.specs.Showing.{ShowsInput, ShowsOpening, TakesOpening, opening_of}

no_read : (read : Result (Part Opening) Cause) (out : Option (List ℕ)) → ShowsOpening read out out status.ReadFault
no_read (Ok p) out = Appends-nil out
no_read (Err cause) out = Appends-nil out

no_memory : (read : Result (Part Opening) Cause) (out : Option (List ℕ)) → ShowsOpening read out out status.Memory
no_memory (Ok p) out = Appends-nil out
no_memory (Err cause) out = Appends-nil out

pub memory_shown : (known out : Option (List ℕ)) → ShowsInput known out out status.Memory
memory_shown None out = tt
memory_shown (Some bytes) out = no_memory (opening_of bytes) out

-- no setup was read
pub refusal_shown : (known : Option (List ℕ)) (e : JournalError) (out : Option (List ℕ)) → Refuses (opening_part JournalLine 0) e known → ShowsInput known out out (status_of e)
refusal_shown None e out h = tt
refusal_shown (Some bytes) error.ReadFault out h = no_read (opening_of bytes) out
refusal_shown (Some bytes) error.Memory out h = no_memory (opening_of bytes) out
refusal_shown (Some bytes) (error.BadFirstLine due) out (cause, is, h) = rw h (ap status_of (sym is), Appends-nil out)
refusal_shown (Some bytes) (error.BadSetup line why) out (cause, is, h) = rw h (ap status_of (sym is), Appends-nil out)
refusal_shown (Some bytes) (error.LineTooLong line) out (cause, is, h) = rw h (ap status_of (sym is), Appends-nil out)
refusal_shown (Some bytes) (error.BadLine line why) out (cause, is, h) = rw h (ap status_of (sym is), Appends-nil out)
refusal_shown (Some bytes) (error.TimeBack line before own) out (cause, is, h) = rw h (ap status_of (sym is), Appends-nil out)
refusal_shown (Some bytes) (error.TimeTooLarge line) out (cause, is, h) = rw h (ap status_of (sym is), Appends-nil out)
refusal_shown (Some bytes) error.NoEnd out (cause, is, h) = rw h (ap status_of (sym is), Appends-nil out)
refusal_shown (Some bytes) (error.AfterEnd line) out (cause, is, h) = rw h (ap status_of (sym is), Appends-nil out)
refusal_shown (Some bytes) (error.TooMany line) out (cause, is, h) = rw h (ap status_of (sym is), Appends-nil out)

-- a setup was read, and its settings written
pub text_shown : (known left : Option (List ℕ)) (o : Opening) (n : ℕ) (old new : Option (List ℕ)) → Gives (opening_part JournalLine 0) o n known left
    → Appends old new (settings_text o.setup) → ShowsInput known old new status.Ok
text_shown None left o n old new h k = tt
text_shown (Some xs) None o n old new h k = absurd h
text_shown (Some xs) (Some ys) o n old new h k = rw h k

-- some first bytes of them were
pub front_shown : (known left : Option (List ℕ)) (o : Opening) (n : ℕ) (old new : Option (List ℕ)) → Gives (opening_part JournalLine 0) o n known left
    → AppendsPrefix old new (settings_text o.setup) → ShowsInput known old new status.WriteFault
front_shown None left o n old new h k = tt
front_shown (Some xs) None o n old new h k = absurd h
front_shown (Some xs) (Some ys) o n old new h k = rw h k

-- its lines were taken
pub opening_left : (known left : Option (List ℕ)) (o : Opening) (n : ℕ) → Gives (opening_part JournalLine 0) o n known left → TakesOpening known left
opening_left None left o n h = tt
opening_left (Some xs) None o n h = absurd h
opening_left (Some xs) (Some ys) o n h = (part o n (lines ys), h, refl)
