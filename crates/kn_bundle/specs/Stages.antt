-- What following one journal of a bundle writes, behind its first line.
use Rattle.std.specs.Prelude.{◌≡◌, ℕ, Bool, true, false, ◌+◌, ◌++◌, List, [], length, Option, None, Some, Result, Ok, Err, ⊤}
use Rattle.std.specs.Io.KnownBytes.{Appends}
use Rattle.kn_event.specs.declared.event.Event.{Event}
use Rattle.kn_io.specs.Prefix.{AppendsPrefix}
use Rattle.kn_journal.specs.declared.error.JournalError.{JournalError}
use Rattle.kn_journal.specs.declared.error.JournalError.TheVariants as error
use Rattle.kn_journal.specs.declared.journal.Journal.{Journal}
use Rattle.kn_journal.specs.declared.journal.Setup.{Setup}
use Rattle.kn_journal.specs.declared.status.Status.{Status}
use Rattle.kn_journal.specs.declared.status.Status.TheVariants as status
use Rattle.kn_journal.specs.Bundle.{opening_by}
use Rattle.kn_journal.specs.Causes.{Cause, error_of, no_end}
use Rattle.kn_journal.specs.Journal.{start_part}
use Rattle.kn_journal.specs.Lines.{lines}
use Rattle.kn_journal.specs.Parts.{Part, part}
use Rattle.kn_journal.specs.Reading.{AreWhole, TakesPart}
use Rattle.kn_follow.specs.Account.{Account}
use Rattle.kn_follow.specs.Endings.{status_of}
use Rattle.kn_bundle.specs.Bundle.{Course, Stage, course, ended, journal_in, stopped}
use Rattle.kn_bundle.specs.Following.{text_of_opened}

-- where nothing is written
abbrev pub nothing : Account
nothing = record { body = λ j. []; close = λ j. [] }

-- ---- the events

-- `end` was read: the lines up to it are these events, whatever follows them
pub record EndsCourse (body close : List Event → List ℕ) (version last number : ℕ) (all : List (List ℕ)) (n : ℕ) (left : List (List ℕ)) (old new : Option (List ℕ)) : Type 0 where
  pub events : List Event
  pub own : List (List ℕ)
  pub split : all ≡ own ++ left
  pub count : number + length own ≡ n
  pub alone : (later : List (List ℕ)) → course version last number (own ++ later) ≡ record { events = events; ends = Ok (part tt n later) }
  pub held : Appends old new (body events ++ close events)

abbrev pub EndsCourseAt : (List Event → List ℕ) → (List Event → List ℕ) → ℕ → ℕ → ℕ → List (List ℕ) → ℕ → Option (List ℕ) → Option (List ℕ) → Option (List ℕ) → Type 0
EndsCourseAt body close version last number all n None old new = ⊥
EndsCourseAt body close version last number all n (Some ys) old new = EndsCourse body close version last number all n (lines ys) old new

-- a line is refused
pub record StopsCourse (body : List Event → List ℕ) (version last number : ℕ) (all : List (List ℕ)) (old new : Option (List ℕ)) (result : Status) : Type 0 where
  pub events : List Event
  pub cause : Cause
  pub reads : course version last number all ≡ record { events = events; ends = Err cause }
  pub status : result ≡ status_of (error_of cause)
  pub held : Appends old new (body events)

-- the source failed behind whole lines that are these events
pub record BreaksCourse (body : List Event → List ℕ) (version last number : ℕ) (xs : List ℕ) (left old new : Option (List ℕ)) : Type 0 where
  pub events : List Event
  pub bytes : List ℕ
  pub mid : List ℕ
  pub split : xs ≡ bytes ++ mid
  pub whole : AreWhole bytes mid
  pub reads : course version last number (lines bytes) ≡ record { events = events; ends = Err no_end }
  pub rest : TakesPart (Some mid) left
  pub held : Appends old new (body events)

abbrev pub close_by : List ℕ → Result (Part ⊤) Cause → List ℕ
close_by text (Ok p) = text
close_by text (Err cause) = []

abbrev pub course_text : (List Event → List ℕ) → (List Event → List ℕ) → Course → List ℕ
course_text body close c = body c.events ++ close_by (close c.events) c.ends

-- of the events behind this line and this time the first text was written, and at `end` the other one
abbrev pub FollowsCourse : (List Event → List ℕ) → (List Event → List ℕ) → ℕ → ℕ → ℕ → ℕ → Option (List ℕ) → Option (List ℕ) → Option (List ℕ) → Option (List ℕ) → Status → Type 0
FollowsCourse body close version last number n None left old new result = ⊤
FollowsCourse body close version last number n (Some xs) left old new status.Ok = EndsCourseAt body close version last number (lines xs) n left old new
FollowsCourse body close version last number n (Some xs) left old new status.ReadFault = BreaksCourse body version last number xs left old new
FollowsCourse body close version last number n (Some xs) left old new status.WriteFault = AppendsPrefix old new (course_text body close (course version last number (lines xs)))
FollowsCourse body close version last number n (Some xs) left old new result = StopsCourse body version last number (lines xs) old new result

-- ---- before the events

-- the source failed behind whole lines, which are a journal but for its end
pub record BreaksAt (version n : ℕ) (xs : List ℕ) (left : Option (List ℕ)) (opened : Option Journal) : Type 0 where
  pub bytes : List ℕ
  pub mid : List ℕ
  pub split : xs ≡ bytes ++ mid
  pub whole : AreWhole bytes mid
  pub reads : journal_in version n (lines bytes) ≡ stopped opened no_end
  pub rest : TakesPart (Some mid) left

-- a setup and a start behind a first line of this version, behind which these lines are left
pub record OpenedBehind (version n : ℕ) (all : List (List ℕ)) (same : ℕ) (setup : Setup) (start number : ℕ) (left : List (List ℕ)) : Type 0 where
  pub at : ℕ
  pub after : List (List ℕ)
  pub opening : opening_by true version n all ≡ Ok (part (record { version = same; setup = setup }) at after)
  pub begins : start_part at after ≡ Ok (part start number left)

abbrev pub FailsToOpen : ℕ → ℕ → List ℕ → Option (List ℕ) → JournalError → Type 0
FailsToOpen version n xs left error.ReadFault = BreaksAt version n xs left None
FailsToOpen version n xs left error.Memory = ⊤
FailsToOpen version n xs left e = (cause : Cause) × (error_of cause ≡ e) × (journal_in version n (lines xs) ≡ stopped None cause)

abbrev pub OpensStage : ℕ → ℕ → Option (List ℕ) → Option (List ℕ) → ℕ → ℕ → Result (Setup × ℕ) JournalError → Type 0
OpensStage version n None new same number result = ⊤
OpensStage version n (Some xs) new same number (Err e) = FailsToOpen version n xs new e
OpensStage version n (Some xs) None same number (Ok parts) = ⊥
OpensStage version n (Some xs) (Some ys) same number (Ok parts) = OpenedBehind version n (lines xs) same parts.0 parts.1 number (lines ys)

-- ---- the journal

-- what is written of it as far as it was read
abbrev pub text_of_stage : Account → Stage → List ℕ
text_of_stage a (ended j n left) = a.body j ++ a.close j
text_of_stage a (stopped opened cause) = text_of_opened a opened

-- its lines are a whole journal, whatever follows them
pub record IsWholeJournal (version n : ℕ) (all : List (List ℕ)) (j : Journal) (m : ℕ) (left : List (List ℕ)) : Type 0 where
  pub own : List (List ℕ)
  pub split : all ≡ own ++ left
  pub count : n + length own ≡ m
  pub alone : (later : List (List ℕ)) → journal_in version n (own ++ later) ≡ ended j m later

abbrev pub EndsStage : Account → ℕ → ℕ → List (List ℕ) → ℕ → Option (List ℕ) → Option (List ℕ) → Option (List ℕ) → Type 0
EndsStage a version n all m None old new = ⊥
EndsStage a version n all m (Some ys) old new = (j : Journal) × IsWholeJournal version n all j m (lines ys) × Appends old new (a.body j ++ a.close j)

abbrev pub FollowsStage : Account → ℕ → ℕ → ℕ → Option (List ℕ) → Option (List ℕ) → Option (List ℕ) → Option (List ℕ) → Status → Type 0
FollowsStage a version n m None left old new result = ⊤
FollowsStage a version n m (Some xs) left old new status.Ok = EndsStage a version n (lines xs) m left old new
FollowsStage a version n m (Some xs) left old new status.ReadFault = (opened : Option Journal) × BreaksAt version n xs left opened × Appends old new (text_of_opened a opened)
FollowsStage a version n m (Some xs) left old new status.WriteFault = AppendsPrefix old new (text_of_stage a (journal_in version n (lines xs)))
FollowsStage a version n m (Some xs) left old new status.Memory = Appends old new []
FollowsStage a version n m (Some xs) left old new result =
    (opened : Option Journal) × (cause : Cause) × (journal_in version n (lines xs) ≡ stopped opened cause) × (result ≡ status_of (error_of cause)) × Appends old new (text_of_opened a opened)

-- of a journal that is asked for, or of another one
abbrev pub chosen : Bool → Account → Account
chosen true a = a
chosen false a = nothing
