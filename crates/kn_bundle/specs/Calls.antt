-- What the calls that follow a bundle need of its reader, and what they say of it and of the outside.
use Rattle.std.specs.Prelude.{◌≡◌, ◌⊎◌, ℕ, ◌+◌, ◌-◌, ◌^◌, ◌≤◌, ◌++◌, Bool, true, List, [], Option, None, Some, Result, Ok, Err}
use Rattle.kn_event.specs.declared.event.Event.{Event}
use Rattle.kn_event.specs.EventLine.{IsInJournalRange}
use Rattle.kn_io.specs.Causes.{Rose}
use Rattle.kn_io.specs.declared.traits.Source.{Ghosts}
use Rattle.kn_io.specs.declared.traits.Faulty.{Ghosts as Counted}
use Rattle.kn_io.specs.declared.traits.Sink.{Ghosts as Writing}
use Rattle.kn_core.specs.State.{RevisionState}
use Rattle.kn_journal.specs.declared.error.JournalError.{JournalError}
use Rattle.kn_journal.specs.declared.error.JournalError.TheVariants as error
use Rattle.kn_journal.specs.declared.journal.Setup.{Setup}
use Rattle.kn_journal.specs.declared.status.Status.{Status}
use Rattle.kn_journal.specs.Bundle.{next_of_part}
use Rattle.kn_journal.specs.Journal.{time_most}
use Rattle.kn_journal.specs.Reading.{IsOver, IsSpent, TakesPart, TakesText, most_taken, unread}
use Rattle.kn_journal.specs.Telling.{Gives, ReaderState, Refuses}
use Rattle.kn_teller.specs.Manner.{Manner, told}
use Rattle.kn_follow.specs.Account.{account_of}
use Rattle.kn_follow.specs.Calls.{run_from}
use Rattle.kn_follow.specs.Following.{Running, ran}
use Rattle.kn_bundle.specs.Following.{FollowsBundle}
use Rattle.kn_bundle.specs.Stages.{FollowsCourse, FollowsStage, OpensStage, chosen, nothing}

-- a reader within a bundle that told no error
pub record IsWithin (reader : ReaderState) : Type 0 where
  pub good : reader.failed ≡ None
  pub few : reader.input.taken ≤ most_taken
  pub bundle : reader.bundle ≡ true

-- .. that took a journal's first line
pub record IsBegun (reader : ReaderState) : Type 0 where
  pub within : IsWithin reader
  pub begun : reader.begun ≡ true

-- a revision that took no event, at the start that was read last
pub record IsReadyFor (x : RevisionState) (reader : ReaderState) : Type 0 where
  pub within : IsWithin reader
  pub last : reader.last ≡ x.clock
  pub clock : x.clock ≤ 2 ^ 42
  pub events : x.events ≡ 0

-- an event was read
pub record TakesEventOf (before after : ReaderState) (old new : Option (List ℕ)) (e : Event) : Type 0 where
  pub gives : Gives (next_of_part before.version before.last before.number) (Some e) after.number old new
  pub text : TakesText after.cut old new
  pub order : before.last ≤ e.time
  pub times : e.time ≤ time_most
  pub last : after.last ≡ e.time
  pub range : IsInJournalRange e.act
  pub bytes : before.input.taken + 6 ≤ after.input.taken
  pub within : IsWithin after

-- `end` was read
pub record TakesEndOf (before after : ReaderState) (old new : Option (List ℕ)) : Type 0 where
  pub gives : Gives (next_of_part before.version before.last before.number) None after.number old new
  pub text : TakesText after.cut old new
  pub within : IsWithin after

-- the source failed
pub record BreaksOffOf (after : ReaderState) (old new : Option (List ℕ)) (faults faults_now : ℕ) : Type 0 where
  pub amid : TakesPart old new
  pub spent : IsSpent after.input
  pub fault : Rose faults faults_now ⊎ (after.input.taken ≡ most_taken)

-- none was read
pub record StopsByOf (before after : ReaderState) (old new : Option (List ℕ)) (faults faults_now : ℕ) (e : JournalError) : Type 0 where
  pub refuses : IsOver before.cut old → Refuses (next_of_part before.version before.last before.number) e old
  pub memory : e ≡ error.Memory → ⊥
  pub breaks : e ≡ error.ReadFault → BreaksOffOf after old new faults faults_now

abbrev pub IsNextOf : ReaderState → ReaderState → Option (List ℕ) → Option (List ℕ) → ℕ → ℕ → Result (Option Event) JournalError → Type 0
IsNextOf before after old new faults faults_now (Ok (Some e)) = TakesEventOf before after old new e
IsNextOf before after old new faults faults_now (Ok None) = TakesEndOf before after old new
IsNextOf before after old new faults faults_now (Err e) = StopsByOf before after old new faults faults_now e

-- .. as a call on the reader of an input finds it
abbrev pub FindsNextOf : {X : Type 0} → ReaderState → ReaderState → Ghosts X → Counted X → X → X → Result (Option Event) JournalError → Type 0
FindsNextOf old new own faulty before now r =
    IsNextOf old new (unread old.input (own.left before)) (unread new.input (own.left now)) (faulty.faults before) (faulty.faults now) r

-- ---- one journal, behind its first line

-- it read a setup and a start, or says why there is none
abbrev pub OpensWithin : {X : Type 0} → ReaderState → ReaderState → Ghosts X → X → X → Result (Setup × ℕ) JournalError → Type 0
OpensWithin old new own before now r =
    OpensStage old.version old.number (unread old.input (own.left before)) (unread new.input (own.left now)) new.version new.number r

-- its events and its `end` were read, and nothing was written of them
abbrev pub SkipsEvents : {X : Type 0} → ReaderState → ReaderState → Ghosts X → X → X → Status → Type 0
SkipsEvents old new own before now result = (out : Option (List ℕ)) → IsOver old.cut (unread old.input (own.left before)) →
    FollowsCourse (λ es. []) (λ es. []) old.version old.last old.number new.number (unread old.input (own.left before)) (unread new.input (own.left now)) out out result

-- .. and what a follower has told of them was written, behind what waited
abbrev pub FollowsEventsOf : {X Y : Type 0} → Manner → Running → ReaderState → ReaderState → Ghosts X → Writing Y → X → X → Y → Y → Status → Type 0
FollowsEventsOf m x old new own sink before now out written result = IsOver old.cut (unread old.input (own.left before)) →
    FollowsCourse (λ es. x.waiting ++ told m (run_from x.revision) es) (λ es. m.ends old.version (ran (run_from x.revision) es))
    old.version old.last old.number new.number (unread old.input (own.left before)) (unread new.input (own.left now))
    (sink.held out) (sink.held written) result

-- it was read, and nothing was written of it
abbrev pub SkipsOne : {X : Type 0} → ReaderState → ReaderState → Ghosts X → X → X → Status → Type 0
SkipsOne old new own before now result = (out : Option (List ℕ)) →
    FollowsStage nothing old.version old.number new.number (unread old.input (own.left before)) (unread new.input (own.left now)) out out result

-- it was read, and what is told of it was written
abbrev pub FollowsOne : {X Y : Type 0} → Manner → ReaderState → ReaderState → Ghosts X → Writing Y → X → X → Y → Y → Status → Type 0
FollowsOne m old new own sink before now out written result =
    FollowsStage (account_of m) old.version old.number new.number (unread old.input (own.left before)) (unread new.input (own.left now))
    (sink.held out) (sink.held written) result

-- .. or nothing, where it isn't the one that is wanted
abbrev pub FollowsChosen : {X Y : Type 0} → Bool → Manner → ReaderState → ReaderState → Ghosts X → Writing Y → X → X → Y → Y → Status → Type 0
FollowsChosen wanted m old new own sink before now out written result =
    FollowsStage (chosen wanted (account_of m)) old.version old.number new.number (unread old.input (own.left before)) (unread new.input (own.left now))
    (sink.held out) (sink.held written) result

-- ---- a whole input

-- what is written of its journal k, and how it ends
abbrev pub FollowsAll : {X Y : Type 0} → Manner → ℕ → Ghosts X → Writing Y → X → X → Y → Y → Status → Type 0
FollowsAll m k own sink before now out written result =
    FollowsBundle (account_of m) k (own.left before) (own.left now) (own.given now - own.given before) (sink.held out) (sink.held written) result
