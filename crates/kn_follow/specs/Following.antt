-- What following a journal writes, in the words of an account or in the manner of a teller.
use Rattle.std.specs.Prelude.{◌≡◌, ◌⊎◌, ℕ, ◌-◌, ◌+◌, ◌++◌, Bool, false, List, [], length, Option, None, Some, Result, Ok, Err, ⊤}
use Rattle.std.specs.Io.KnownBytes.{prepend_known}
use Rattle.kn_event.specs.declared.entry.Entry.{Entry}
use Rattle.kn_event.specs.declared.event.Event.{Event}
use Rattle.kn_core.specs.State.{RevisionState}
use Rattle.kn_preamble.specs.declared.first.FirstLine.TheVariants.{Journal as JournalLine}
use Rattle.kn_journal.specs.declared.error.JournalError.{JournalError}
use Rattle.kn_journal.specs.declared.error.JournalError.TheVariants as error
use Rattle.kn_journal.specs.declared.journal.Journal.{Journal}
use Rattle.kn_journal.specs.declared.journal.Setup.{Setup}
use Rattle.kn_journal.specs.declared.status.Status.{Status}
use Rattle.kn_journal.specs.Causes.{Cause, IsGoodSoFar, error_of, no_end}
use Rattle.kn_journal.specs.Journal.{bad, opening_part, read_events, start_part, verdict, verdict_on}
use Rattle.kn_journal.specs.Series.{Read}
use Rattle.kn_journal.specs.Lines.{lines}
use Rattle.kn_journal.specs.Parts.{part}
use Rattle.kn_journal.specs.Reading.{AreWhole, EndsWithLf, TakesPart, most_taken}
use Rattle.kn_teller.specs.Manner.{Manner, told}
use Rattle.kn_teller.specs.Run.{Run}
use Rattle.kn_follow.specs.Account.{Account, text_of}
use Rattle.kn_follow.specs.Endings.{Writes, line_of, refusal_of, status_by}

-- ---- where the source failed: of the bytes taken, the lines that ended with LF are all good, and no LF stands behind them

-- they are this journal, maybe but for its end
pub record BreaksAmid (xs : List ℕ) (left : Option (List ℕ)) (j : Journal) : Type 0 where
  pub bytes : List ℕ
  pub mid : List ℕ
  pub split : xs ≡ bytes ++ mid
  pub ended : EndsWithLf bytes
  pub refused : Option Cause
  pub reads : verdict bytes ≡ verdict_on j refused
  pub good : IsGoodSoFar refused
  pub rest : TakesPart (Some mid) left

-- no start is among them, nor in a line that the end of the input ended
pub record BreaksBefore (xs : List ℕ) (left : Option (List ℕ)) : Type 0 where
  pub bytes : List ℕ
  pub mid : List ℕ
  pub split : xs ≡ bytes ++ mid
  pub whole : AreWhole bytes mid
  pub reads : verdict bytes ≡ bad None no_end
  pub rest : TakesPart (Some mid) left

-- what was written then: of the journal's start and its events, or nothing where its start had not ended
abbrev pub Breaks : Account → List ℕ → Option (List ℕ) → List ℕ → Type 0
Breaks a xs left front = ((j : Journal) × BreaksAmid xs left j × (front ≡ a.body j)) ⊎ ((front ≡ []) × BreaksBefore xs left)

-- so many bytes were given, and all of them taken but those beyond 2^56
abbrev pub BreaksBeyond : Account → List ℕ → Option (List ℕ) → ℕ → List ℕ → Type 0
BreaksBeyond a xs left given front = (beyond : List ℕ) × (length beyond ≡ given - most_taken) × Breaks a xs (prepend_known beyond left) front

-- ---- of an input with these bytes, which gave so many of them

abbrev pub FollowsInput : Account → Option (List ℕ) → Option (List ℕ) → ℕ → Option (List ℕ) → Option (List ℕ) → Status → Type 0
FollowsInput a None left given old new result = ⊤
FollowsInput a (Some xs) left given old new result =
    Writes (text_of a (verdict xs)) (status_by (refusal_of (verdict xs))) (BreaksBeyond a xs left given) old new result

-- ---- before the events

-- a setup and a start, behind which these lines are left
pub record Opened (all : List (List ℕ)) (version : ℕ) (setup : Setup) (start number : ℕ) (left : List (List ℕ)) : Type 0 where
  pub at : ℕ
  pub after : List (List ℕ)
  pub opening : opening_part JournalLine 0 all ≡ Ok (part (record { version = version; setup = setup }) at after)
  pub begins : start_part at after ≡ Ok (part start number left)

-- why there is none
abbrev pub FailsToOpen : List ℕ → Option (List ℕ) → JournalError → Type 0
FailsToOpen xs left error.ReadFault = BreaksBefore xs left
FailsToOpen xs left error.Memory = ⊤
FailsToOpen xs left e = (cause : Cause) × (error_of cause ≡ e) × (verdict xs ≡ bad None cause)

abbrev pub Opens : Option (List ℕ) → Option (List ℕ) → ℕ → ℕ → Result (Setup × ℕ) JournalError → Type 0
Opens None new version number result = ⊤
Opens (Some xs) new version number (Err e) = FailsToOpen xs new e
Opens (Some xs) None version number (Ok parts) = ⊥
Opens (Some xs) (Some ys) version number (Ok parts) = Opened (lines xs) version parts.0 parts.1 number (lines ys)

-- ---- the part behind the start

-- a revision that is followed, the entries of the last event, and the text that waits
pub record Running : Type 0 where
  pub revision : RevisionState
  pub log : List Entry
  pub waiting : List ℕ

-- a run with these events too
abbrev pub ran : Run → List Event → Run
ran run es = record { spec = run.spec; start = run.start; events = run.events ++ es }

-- at the end, where all lines are good
abbrev pub ending : ℕ → Manner → Run → Option Cause → List ℕ
ending version m run None = m.ends version run
ending version m run (Some cause) = []

-- what is written of the events behind a run, and at the end
unfoldable pub rest_of_text : ℕ → Manner → Run → Read Event → List ℕ
rest_of_text version m run r = told m run r.events ++ ending version m (ran run r.events) r.refused

-- where the source failed: these events ended before it, or none behind a line that wasn't cut
pub record BreaksIn (cut : Bool) (version last number : ℕ) (xs : List ℕ) (left : Option (List ℕ)) (read : Read Event) : Type 0 where
  pub bytes : List ℕ
  pub mid : List ℕ
  pub split : xs ≡ bytes ++ mid
  pub ended : ((bytes ≡ []) × (cut ≡ false)) ⊎ EndsWithLf bytes
  pub events : read_events version last number (lines bytes) ≡ read
  pub good : IsGoodSoFar read.refused
  pub rest : TakesPart (Some mid) left

abbrev pub BreaksFollowing : Bool → ℕ → Manner → Run → ℕ → ℕ → List ℕ → Option (List ℕ) → List ℕ → List ℕ → Type 0
BreaksFollowing cut version m run last number xs left waiting front =
    (read : Read Event) × BreaksIn cut version last number xs left read × (front ≡ waiting ++ told m run read.events)

-- what waits, and what is told of the events in these bytes, which stand behind a line that was cut or not
abbrev pub Follows : Bool → ℕ → Manner → Run → ℕ → ℕ → Option (List ℕ) → Option (List ℕ) → List ℕ → Option (List ℕ) → Option (List ℕ) → Status → Type 0
Follows cut version m run last number None left waiting old new result = ⊤
Follows cut version m run last number (Some xs) left waiting old new result =
    let r = read_events version last number (lines xs) in
    Writes (waiting ++ rest_of_text version m run r) (status_by r.refused) (BreaksFollowing cut version m run last number xs left waiting) old new result

-- of the lines behind a start, which is in the line of this number
abbrev pub FollowsBehind : ℕ → ℕ → ℕ → Status → Option (List ℕ) → Option (List ℕ) → Type 0
FollowsBehind version last number result None new = ⊤
FollowsBehind version last number result (Some xs) None = ⊥
FollowsBehind version last number result (Some xs) (Some ys) = (own : List (List ℕ)) × (lines xs ≡ own ++ lines ys) × (line_of result ≡ Some (number + length own)) × (status_by (read_events version last number own).refused ≡ result)
