-- What the bytes of an input say: a journal, or the journal before the first refused line and the cause; and a journal's text.
use Rattle.std.specs.Prelude.{◌≡◌, ℕ, ◌++◌, ◌≤◌, nat_le, List, [], ◌∷◌, length, Option, None, Some, Result, Ok, Err, codes, if◌then◌else◌}
use Rattle.std.specs.Fmt.{decimal}
use Rattle.std.specs.Str.{bytes_eq}
use Rattle.kn_event.specs.declared.event.Event.{Event}
use Rattle.kn_event.specs.declared.fault.LineError.{LineError}
use Rattle.kn_event.specs.declared.fault.LineError.TheVariants as line_error
use Rattle.kn_event.specs.EventLine.{event_of, event_text, IsInJournalRange, IsInVersion, last_number}
use Rattle.kn_event.specs.Fields.{fields}
use Rattle.kn_preamble.specs.declared.first.FirstLine.{FirstLine}
use Rattle.kn_preamble.specs.declared.first.FirstLine.TheVariants.{Journal as JournalLine}
use Rattle.kn_preamble.specs.First.{first_line, version_by}
use Rattle.kn_journal.specs.declared.journal.Setup.{Setup}
use Rattle.kn_journal.specs.declared.journal.Journal.{Journal}
use Rattle.kn_journal.specs.declared.journal.Opening.{Opening}
use Rattle.kn_journal.specs.Lines.{lines}
use Rattle.kn_journal.specs.Causes.{Cause, bad_first_line, bad_line, time_back, time_too_large}
use Rattle.kn_journal.specs.Parts.{Part, part, then_part, with_line}
use Rattle.kn_journal.specs.Setup.{setup_part}
use Rattle.kn_journal.specs.Series.{Read, end_part, item_in, none_read, then_events}

-- ---- the first line

abbrev pub version_in : FirstLine → ℕ → List (List ℕ) → Option ℕ → Result (Part ℕ) Cause
version_in due n left None = Err (bad_first_line due)
version_in due n left (Some version) = Ok (part version n left)

abbrev pub first_in : FirstLine → ℕ → List ℕ → List (List ℕ) → Result (Part ℕ) Cause
first_in due number line left = version_in due number left (version_by due line)

-- a first line of this form, after line n
unfoldable pub first_part : FirstLine → ℕ → List (List ℕ) → Result (Part ℕ) Cause
first_part due n lines = with_line n lines (first_in due)

abbrev pub opening_in : ℕ → ℕ → List (List ℕ) → Setup → Result (Part Opening) Cause
opening_in version n left setup = Ok (part (record { version = version; setup = setup }) n left)

-- a first line of this form, and then a setup
unfoldable pub opening_part : FirstLine → ℕ → List (List ℕ) → Result (Part Opening) Cause
opening_part due n lines =
    then_part (first_part due n lines) (λ version n lines.
    then_part (setup_part n lines) (λ setup n left. opening_in version n left setup))

-- ---- the start

-- the greatest time, in milliseconds
abbrev pub time_most : ℕ
time_most = 4398046511104

abbrev pub start_of_fields : List (List ℕ) → Result ℕ LineError
start_of_fields [] = Err line_error.BadWord
start_of_fields (word ∷ more) = if bytes_eq word (codes "start") then last_number (length word) more else Err line_error.BadWord

-- the time of `start T`, or its first fault
unfoldable pub start_of : List ℕ → Result ℕ LineError
start_of line = start_of_fields (fields line)

abbrev pub start_in : ℕ → List (List ℕ) → Result ℕ LineError → Result (Part ℕ) Cause
start_in n left (Ok time) = if nat_le time time_most then Ok (part time n left) else Err (time_too_large n)
start_in n left (Err why) = Err (bad_line n why)

abbrev pub start_line_in : ℕ → List ℕ → List (List ℕ) → Result (Part ℕ) Cause
start_line_in number line left = start_in number left (start_of line)

-- the start, after line n
unfoldable pub start_part : ℕ → List (List ℕ) → Result (Part ℕ) Cause
start_part n lines = with_line n lines start_line_in

-- ---- the events

-- an event is judged by its line first, then by the greatest time, then by the last time
abbrev pub in_time : ℕ → ℕ → Result Event LineError → Result Event Cause
in_time n last (Ok e) = if nat_le e.time time_most then (if nat_le last e.time then Ok e else Err (time_back n last e.time)) else Err (time_too_large n)
in_time n last (Err why) = Err (bad_line n why)

abbrev pub next_in : ℕ → ℕ → ℕ → List ℕ → List (List ℕ) → Result (Part (Option Event)) Cause
next_in version last number line left =
    if bytes_eq line (codes "end") then end_part number left else item_in number left (in_time number last (event_of version line))

-- the next event after line n and this time, or none where `end` ends the input
unfoldable pub next_part : ℕ → ℕ → ℕ → List (List ℕ) → Result (Part (Option Event)) Cause
next_part version last n lines = with_line n lines (next_in version last)

-- all events after line n and this time
unfoldable pub read_events : ℕ → ℕ → ℕ → List (List ℕ) → Read Event
read_events version last n [] = then_events (next_part version last n []) (λ e number. none_read None)
read_events version last n (line ∷ more) = then_events (next_part version last n (line ∷ more)) (λ e number. read_events version e.time number more)

-- ---- the verdict

-- a journal, or that of the lines before the first refused one, none where the start wasn't read, and why that line is refused
pub data Verdict : Type 0 where
  good : Journal → Verdict
  bad : Option Journal → Cause → Verdict

abbrev pub journal_of : ℕ → Setup → ℕ → List Event → Journal
journal_of version setup start events = record { version = version; setup = setup; start = start; events = events }

abbrev pub verdict_on : Journal → Option Cause → Verdict
verdict_on j None = good j
verdict_on j (Some cause) = bad (Some j) cause

abbrev pub from_read : ℕ → Setup → ℕ → Read Event → Verdict
from_read version setup start read = verdict_on (journal_of version setup start read.events) read.refused

abbrev pub or_bad : {T : Type 0} → Result (Part T) Cause → (T → ℕ → List (List ℕ) → Verdict) → Verdict
or_bad (Ok p) next = next p.value p.number p.left
or_bad (Err cause) next = bad None cause

unfoldable pub verdict_of_lines : List (List ℕ) → Verdict
verdict_of_lines all =
    or_bad (opening_part JournalLine 0 all) (λ opening n more.
    or_bad (start_part n more) (λ start n more. from_read opening.version opening.setup start (read_events opening.version start n more)))

-- line 1 is `kact journal V` with V 1 or 2, the version, in which `lost` is a word of an event exactly where it is 2; then
-- come the setup, the start, the events and `end`, and then the end of the input
unfoldable pub verdict : List ℕ → Verdict
verdict bytes = verdict_of_lines (lines bytes)

-- ---- the text

abbrev pub events_text : List Event → List ℕ
events_text [] = []
events_text (e ∷ es) = event_text e ++ 10 ∷ events_text es

-- line 1, the setup's text as it was kept, the start, the events and `end`, each with its LF
unfoldable pub journal_text : Journal → List ℕ
journal_text j = first_line j.version ++ 10 ∷ (j.setup.text ++ ((codes "start " ++ decimal j.start) ++ 10 ∷ (events_text j.events ++ codes "end\n")))

-- ---- a journal in range

-- its text reads as it, and no more follows
pub record IsSetup (s : Setup) : Type 0 where
  pub number : ℕ
  pub read : setup_part 1 (lines s.text) ≡ Ok (part s number [])

-- times never fall and are in range, and so are the numbers; the version has each act
abbrev pub AreEvents : ℕ → ℕ → List Event → Type 0
AreEvents version last [] = Unit {0}
AreEvents version last (e ∷ es) = (last ≤ e.time) × (e.time ≤ time_most) × IsInJournalRange e.act × IsInVersion version e.act × AreEvents version e.time es

pub record IsJournal (j : Journal) : Type 0 where
  pub version_least : 1 ≤ j.version
  pub version_most : j.version ≤ 2
  pub setup : IsSetup j.setup
  pub start : j.start ≤ time_most
  pub events : AreEvents j.version j.start j.events
