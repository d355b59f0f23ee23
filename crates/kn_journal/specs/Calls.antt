-- What the calls of a journal's reader say.
use Rattle.std.specs.Prelude.{◌≡◌, ◌≢◌, ◌⊎◌, ℕ, ◌+◌, ◌<◌, ◌≤◌, Bool, true, false, List, IfErr, IfSome, IsSome, OnErr, OnOk, Option, None, Some, Result, Ok, Err}
use Rattle.kn_io.specs.Causes.{Rose}
use Rattle.kn_io.specs.declared.traits.Source.{Ghosts}
use Rattle.kn_io.specs.declared.traits.Faulty.{Ghosts as Counted}
use Rattle.kn_event.specs.declared.event.Event.{Event}
use Rattle.kn_journal.specs.declared.error.JournalError.{JournalError}
use Rattle.kn_journal.specs.declared.error.JournalError.TheVariants as error
use Rattle.kn_journal.specs.declared.journal.Setup.{Setup}
use Rattle.kn_journal.specs.Bundle.{first_of_part, listed_part, next_by, opening_by}
use Rattle.kn_journal.specs.Causes.{Cause}
use Rattle.kn_journal.specs.LineCalls.{ReadsText}
use Rattle.kn_journal.specs.Parts.{Part}
use Rattle.kn_journal.specs.Reading.{IsBalanced, IsOver, IsSpent, TakesText, most_taken, unread}
use Rattle.kn_journal.specs.Telling.{AmidNext, IsLineFault, LeavesRest, OnEvent, ReaderState, StopsAmid, Tells, TellsFirst, TellsOpening}

-- A reader that fails answers that error once and for ever.
pub record FailsForGood {X T : Type 0} (old new : ReaderState) (before now : X) (result : Result T JournalError) : Type 0 where
  -- one that had failed answers its error again
  pub again : IfSome old.failed (λ e. result ≡ Err e)
  -- .. and does nothing more
  pub still : IsSome old.failed → (new ≡ old) × (now ≡ before)
  -- one that answers anything else has not failed
  pub good : OnOk result (new.failed ≡ None)
  -- an error is kept
  pub keeps : IfErr result (λ e. new.failed ≡ Some e)

-- What a call does to the reader's input and to its source, where a fault of the source stops it so: as `Draws` says it, but of the
-- fault only where the reader had not failed before.
pub record DrawsOn {X T : Type 0} (Amid : Option (List ℕ) → Option (List ℕ) → Type 0) (old new : ReaderState) (own : Ghosts X) (faulty : Counted X) (before now : X) (result : Result T JournalError) : Type 0 where
  -- a fault of the source stopped it amid what it reads
  pub amid : old.failed ≡ None → result ≡ Err error.ReadFault → Amid (unread old.input (own.left before)) (unread new.input (own.left now))
  -- .. with nothing ahead, unless all bytes were taken that may be
  pub spent : old.failed ≡ None → result ≡ Err error.ReadFault → IsSpent new.input
  -- .. and the count of faults rose, or all bytes were taken
  pub fault : old.failed ≡ None → result ≡ Err error.ReadFault → Rose (faulty.faults before) (faulty.faults now) ⊎ (new.input.taken ≡ most_taken)
  -- the count of bytes taken doesn't fall
  pub grows : old.input.taken ≤ new.input.taken
  -- each byte that the source gave was taken or is ahead
  pub balance : IsBalanced old.input new.input (own.given before) (own.given now)
  -- the count of faults doesn't fall
  pub never_falls : faulty.faults before ≤ faulty.faults now
  -- the texts beside the source's bytes stay
  pub apart : own.apart now ≡ own.apart before

-- What a call leaves alone that begins no journal.
pub record KeepsJournal (old new : ReaderState) : Type 0 where
  pub version : new.version ≡ old.version
  -- whether a journal ends at its `end`
  pub bundle : new.bundle ≡ old.bundle
  -- whether a first line was taken before the setup
  pub begun : new.begun ≡ old.begun

-- ---- the first line of a bundle's next journal

-- what it makes of the reader
pub record BeginsJournal (old new : ReaderState) (result : Result Bool JournalError) : Type 0 where
  -- where none begins the version stays
  pub version : result ≢ Ok true → new.version ≡ old.version
  -- from then on a journal ends at its `end`
  pub bundle : old.failed ≡ None → new.bundle ≡ true
  -- the next setup stands behind the first line that was taken
  pub begun : result ≡ Ok true → new.begun ≡ true
  -- .. and where none was, as before
  pub same : result ≢ Ok true → new.begun ≡ old.begun

-- what is told of it
pub record ReadsFirst {X : Type 0} (old new : ReaderState) (own : Ghosts X) (before now : X) (result : Result Bool JournalError) : Type 0 where
  -- the line names the version, or none is there, or it is refused so
  pub tells : old.failed ≡ None → IsOver old.cut (unread old.input (own.left before)) →
      TellsFirst (first_of_part old.number) new.version new.number (unread old.input (own.left before)) (unread new.input (own.left now)) result
  -- all that came behind a refused line is unread
  pub rest : old.failed ≡ None → IfErr result (λ e. IsLineFault e →
      LeavesRest (first_of_part old.number) old.number (Some (old.number + 1)) e (unread old.input (own.left before)) (unread new.input (own.left now)))
  -- the line was taken with its end
  pub text : result ≡ Ok true → TakesText new.cut (unread old.input (own.left before)) (unread new.input (own.left now))
  -- .. and counted
  pub bytes : result ≡ Ok true → old.input.taken < new.input.taken

-- ---- a setup, behind a first line

-- a fault of the source stops it amid this
abbrev pub AmidOpening : ReaderState → Option (List ℕ) → Option (List ℕ) → Type 0
AmidOpening reader = StopsAmid (opening_by reader.begun reader.version reader.number)

-- what it makes of the reader
pub record OpensJournal (old new : ReaderState) (result : Result Setup JournalError) : Type 0 where
  -- the version is one that is known
  pub least : OnOk result (1 ≤ new.version)
  pub most : OnOk result (new.version ≤ 2)
  -- .. and stays where there was no setup
  pub version : OnErr result (new.version ≡ old.version)
  -- .. or where the first line was taken before
  pub same : old.begun ≡ true → new.version ≡ old.version
  -- whether a journal ends at its `end`
  pub bundle : new.bundle ≡ old.bundle
  -- the next setup has a first line of its own again
  pub begun : OnOk result (new.begun ≡ false)

-- what is told of it
pub record ReadsOpening {X : Type 0} (old new : ReaderState) (own : Ghosts X) (before now : X) (result : Result Setup JournalError) : Type 0 where
  -- the lines give the version and the setup, or are refused so
  pub tells : old.failed ≡ None →
      TellsOpening (opening_by old.begun old.version old.number) new.version new.number (unread old.input (own.left before)) (unread new.input (own.left now)) result
  -- all that came behind a refused line is unread
  pub rest : old.failed ≡ None → IfErr result (λ e. IsLineFault e →
      LeavesRest (opening_by old.begun old.version old.number) old.number (Some (old.number + 1)) e (unread old.input (own.left before)) (unread new.input (own.left now)))
  -- the lines were taken, of which the last one was cut or not
  pub text : OnOk result (TakesText new.cut (unread old.input (own.left before)) (unread new.input (own.left now)))

-- ---- a part behind it

-- what is told of this part
pub record ReadsPart {X T : Type 0} (read : ℕ → List (List ℕ) → Result (Part T) Cause) (old new : ReaderState) (own : Ghosts X) (before now : X) (result : Result T JournalError) : Type 0 where
  -- the lines give it, or are refused so
  pub tells : old.failed ≡ None → Tells (read old.number) new.number (unread old.input (own.left before)) (unread new.input (own.left now)) result
  -- all that came behind a refused line is unread
  pub rest : old.failed ≡ None → IfErr result (λ e. IsLineFault e →
      LeavesRest (read old.number) old.number None e (unread old.input (own.left before)) (unread new.input (own.left now)))

-- the lines of the part were taken, of which the last one was cut or not
abbrev pub ReadsTo : {X : Type 0} → ReaderState → ReaderState → Ghosts X → X → X → Type 0
ReadsTo old new own before now = ReadsText new.cut old.input new.input own before now

-- ---- the next event

-- a fault of the source stops it amid this
abbrev pub AmidEvent : ReaderState → Option (List ℕ) → Option (List ℕ) → Type 0
AmidEvent reader = AmidNext reader.bundle

-- what is told of it
pub record ReadsNext {X : Type 0} (old new : ReaderState) (own : Ghosts X) (before now : X) (result : Result (Option Event) JournalError) : Type 0 where
  -- the lines give the event or the end, or are refused so
  pub tells : old.failed ≡ None → Tells (next_by old.bundle old.version old.last old.number) new.number (unread old.input (own.left before)) (unread new.input (own.left now)) result
  -- all that came behind a refused line is unread
  pub rest : old.failed ≡ None → IfErr result (λ e. IsLineFault e →
      LeavesRest (next_by old.bundle old.version old.last old.number) old.number None e (unread old.input (own.left before)) (unread new.input (own.left now)))
  -- in a bundle a line was taken with its end, be it `end`
  pub closes : old.bundle ≡ true → OnOk result (TakesText new.cut (unread old.input (own.left before)) (unread new.input (own.left now)))
  -- the event's line was taken with its end
  pub text : OnEvent result (λ e. TakesText new.cut (unread old.input (own.left before)) (unread new.input (own.left now)))

-- what is told of one whose line is ahead, whatever the source has left
pub record ReadsAhead (old new : ReaderState) (left : Option (List ℕ)) (e : Event) : Type 0 where
  -- the first line gives the event
  pub tells : Tells (next_by old.bundle old.version old.last old.number) new.number (unread old.input left) (unread new.input left) (Ok (Some e))
  -- .. and was taken with its end
  pub text : TakesText new.cut (unread old.input left) (unread new.input left)

-- ---- setups

-- what is told of so many
abbrev pub TellsSetups : {X : Type 0} → ℕ → ReaderState → ReaderState → Ghosts X → X → X → Result (List Setup) JournalError → Type 0
TellsSetups n old new own before now r = Tells (listed_part old.number n) new.number (unread old.input (own.left before)) (unread new.input (own.left now)) r
