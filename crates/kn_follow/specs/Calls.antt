-- What the calls that follow a journal need of its reader, and what they say of it and of the outside.
use Rattle.std.specs.Prelude.{◌≡◌, ◌⊎◌, ℕ, ◌+◌, ◌-◌, ◌^◌, ◌≤◌, ◌++◌, false, List, length, IfErr, OnErr, OnOk, Option, None, Some, Result, Ok, Err}
use Rattle.kn_event.specs.declared.event.Event.{Event}
use Rattle.kn_event.specs.EventLine.{IsInJournalRange}
use Rattle.kn_io.specs.Causes.{Rose}
use Rattle.kn_io.specs.Prefix.{AppendsPrefix}
use Rattle.kn_io.specs.declared.traits.Source.{Ghosts}
use Rattle.kn_io.specs.declared.traits.Faulty.{Ghosts as Counted}
use Rattle.kn_io.specs.declared.traits.Sink.{Ghosts as Writing}
use Rattle.kn_core.specs.State.{RevisionState}
use Rattle.kn_journal.specs.declared.error.JournalError.{JournalError}
use Rattle.kn_journal.specs.declared.error.JournalError.TheVariants as error
use Rattle.kn_journal.specs.declared.journal.Setup.{Setup}
use Rattle.kn_journal.specs.declared.status.Status.{Status}
use Rattle.kn_journal.specs.declared.status.Status.TheVariants as status
use Rattle.kn_journal.specs.Journal.{next_part, time_most}
use Rattle.kn_journal.specs.Reading.{Ahead, EndsThere, IsBalanced, IsOver, IsSpent, TakesPart, TakesText, most_taken, unread}
use Rattle.kn_journal.specs.Telling.{Gives, IsLineFault, LeavesRest, ReaderState, Refuses, TakesEnd}
use Rattle.kn_report.specs.Waiting.{Adds}
use Rattle.kn_teller.specs.declared.teller.Teller.{Ghosts as Telling}
use Rattle.kn_teller.specs.Manner.{Manner}
use Rattle.kn_teller.specs.Run.{IsOpened, IsRunOf, Run, begun, later}
use Rattle.kn_follow.specs.Account.{account_of}
use Rattle.kn_follow.specs.Cutting.{FollowsCut, LeavesCut}
use Rattle.kn_follow.specs.Endings.{IsBehind, IsRefusal, Stops, status_of}
use Rattle.kn_follow.specs.Following.{Follows, FollowsBehind, FollowsInput, Opens, Running}

-- a reader of a journal that is no bundle's, which told no error
pub record IsSound (reader : ReaderState) : Type 0 where
  pub good : reader.failed ≡ None
  pub alone : reader.bundle ≡ false
  pub few : reader.input.taken ≤ most_taken

-- a revision that took no event, at the start that was read last
pub record IsReady (x : RevisionState) (reader : ReaderState) : Type 0 where
  pub sound : IsSound reader
  pub last : reader.last ≡ x.clock
  pub clock : x.clock ≤ 2 ^ 42
  pub events : x.events ≡ 0

-- each byte that the source gave was taken or is ahead, and the count of its faults didn't fall
pub record Draws (old new : Ahead) (given_before given_now before now : ℕ) : Type 0 where
  pub balance : IsBalanced old new given_before given_now
  pub never_falls : before ≤ now

-- the count of the sink's faults didn't fall, and it rose where writing failed
pub record IsCaused (before now : ℕ) (result : Status) : Type 0 where
  pub never_falls : before ≤ now
  pub failed : result ≡ status.WriteFault → Rose before now

-- where reading failed: the count of faults rose, or all bytes were taken that may be
pub record IsBroken (input : Ahead) (before now : ℕ) : Type 0 where
  pub spent : IsSpent input
  pub fault : Rose before now ⊎ (most_taken ≤ input.taken)

-- ---- a call on the reader of an input

-- what it does to its input and to its source
abbrev pub DrawsInput : {X : Type 0} → ReaderState → ReaderState → Ghosts X → Counted X → X → X → Type 0
DrawsInput old new own faulty before now = Draws old.input new.input (own.given before) (own.given now) (faulty.faults before) (faulty.faults now)

-- it stopped where reading failed
abbrev pub BreaksInput : {X : Type 0} → ReaderState → Counted X → X → X → Type 0
BreaksInput new faulty before now = IsBroken new.input (faulty.faults before) (faulty.faults now)

-- it read all of the input
abbrev pub ReadsToEnd : {X : Type 0} → ReaderState → ReaderState → Ghosts X → X → X → Type 0
ReadsToEnd old new own before now = EndsThere (unread old.input (own.left before)) (unread new.input (own.left now))

-- it read a setup and a start, or says why there is none
abbrev pub OpensInput : {X : Type 0} → ReaderState → ReaderState → Ghosts X → X → X → Result (Setup × ℕ) JournalError → Type 0
OpensInput old new own before now r = Opens (unread old.input (own.left before)) (unread new.input (own.left now)) new.version new.number r

-- where it refused a line of these, all that came behind that one is unread
abbrev pub RestOfOpening : {X T : Type 0} → ReaderState → ReaderState → Ghosts X → X → X → Result T JournalError → Type 0
RestOfOpening old new own before now r =
    IfErr r (λ e. IsRefusal (status_of e) → IsBehind (status_of e) (unread old.input (own.left before)) (unread new.input (own.left now)))

-- .. and so where it refused one behind a start
abbrev pub RestOfEvents : {X : Type 0} → ReaderState → ReaderState → Ghosts X → X → X → Status → Type 0
RestOfEvents old new own before now result =
    IsRefusal result → FollowsBehind old.version old.last old.number result (unread old.input (own.left before)) (unread new.input (own.left now))

-- ---- the next event

-- it was read
pub record TakesEvent (before after : ReaderState) (old new : Option (List ℕ)) (e : Event) : Type 0 where
  pub gives : Gives (next_part before.version before.last before.number) (Some e) after.number old new
  pub text : TakesText after.cut old new
  pub order : before.last ≤ e.time
  pub times : e.time ≤ time_most
  pub last : after.last ≡ e.time
  pub range : IsInJournalRange e.act
  pub bytes : before.input.taken + 6 ≤ after.input.taken
  pub sound : IsSound after

-- the source failed
pub record BreaksOff (before after : ReaderState) (old new : Option (List ℕ)) (faults faults_now : ℕ) : Type 0 where
  pub uncut : before.cut ≡ false
  pub amid : TakesPart old new ⊎ TakesEnd old new
  pub spent : IsSpent after.input
  pub fault : Rose faults faults_now ⊎ (after.input.taken ≡ most_taken)

-- none was read
pub record StopsBy (before after : ReaderState) (old new : Option (List ℕ)) (faults faults_now : ℕ) (e : JournalError) : Type 0 where
  pub refuses : IsOver before.cut old → Refuses (next_part before.version before.last before.number) e old
  pub rest : IsLineFault e → LeavesRest (next_part before.version before.last before.number) before.number None e old new
  pub memory : e ≡ error.Memory → ⊥
  pub breaks : e ≡ error.ReadFault → BreaksOff before after old new faults faults_now

-- an event, the end, or an error
abbrev pub IsNext : ReaderState → ReaderState → Option (List ℕ) → Option (List ℕ) → ℕ → ℕ → Result (Option Event) JournalError → Type 0
IsNext before after old new faults faults_now (Ok (Some e)) = TakesEvent before after old new e
IsNext before after old new faults faults_now (Ok None) = Gives (next_part before.version before.last before.number) None after.number old new
IsNext before after old new faults faults_now (Err e) = StopsBy before after old new faults faults_now e

-- .. as a call on the reader of an input finds it
abbrev pub FindsNext : {X : Type 0} → ReaderState → ReaderState → Ghosts X → Counted X → X → X → Result (Option Event) JournalError → Type 0
FindsNext old new own faulty before now =
    IsNext old new (unread old.input (own.left before)) (unread new.input (own.left now)) (faulty.faults before) (faulty.faults now)

-- ---- what a follower takes and has its teller tell

-- the run that a revision begins, which took no event
abbrev pub run_from : RevisionState → Run
run_from x = begun x.spec x.clock

-- of whatever run the teller awaits, and the revision has just opened: what is told of its start came behind what waited
abbrev pub AddsStart : {X Y T E : Type 0} → Telling X → Writing Y → X → Running → Running → Y → Y → Result T E → Type 0
AddsStart own sink teller old new before now result = (r : Run) → own.awaits teller r → IsOpened r old.revision old.log →
    OnOk result (Adds (sink.held before) (sink.held now) old.waiting new.waiting ((own.manner teller).opens r))

-- .. or writing failed amid both
abbrev pub CutsStart : {X Y T E : Type 0} → Telling X → Writing Y → X → Running → Y → Y → Result T E → Type 0
CutsStart own sink teller old before now result = (r : Run) → own.awaits teller r → IsOpened r old.revision old.log →
    OnErr result (AppendsPrefix (sink.held before) (sink.held now) (old.waiting ++ (own.manner teller).opens r))

-- .. and from then on the teller knows that run
abbrev pub KnowsStart : {X T E : Type 0} → Telling X → X → X → Running → Result T E → Type 0
KnowsStart own before now old result =
    (r : Run) → own.awaits before r → IsOpened r old.revision old.log → OnOk result (own.knows now r)

-- of whatever run the teller knows, and the revision stood for before this event: what is told of it came behind what waited
abbrev pub AddsEvent : {X Y T E : Type 0} → Telling X → Writing Y → X → Event → Running → Running → Y → Y → Result T E → Type 0
AddsEvent own sink teller e old new before now result = (r : Run) → own.knows teller r → IsRunOf r old.revision →
    OnOk result (Adds (sink.held before) (sink.held now) old.waiting new.waiting ((own.manner teller).tells r e))

-- .. or writing failed amid both
abbrev pub CutsEvent : {X Y T E : Type 0} → Telling X → Writing Y → X → Event → Running → Y → Y → Result T E → Type 0
CutsEvent own sink teller e old before now result = (r : Run) → own.knows teller r → IsRunOf r old.revision →
    OnErr result (AppendsPrefix (sink.held before) (sink.held now) (old.waiting ++ (own.manner teller).tells r e))

-- .. and from then on the teller knows the run with it
abbrev pub KnowsEvent : {X T E : Type 0} → Telling X → X → X → Event → Running → Result T E → Type 0
KnowsEvent own before now e old result =
    (r : Run) → own.knows before r → IsRunOf r old.revision → OnOk result (own.knows now (later r e))

-- of whatever run of so many events the teller knows: what waits is written, and then what it tells at the end, or that failed
abbrev pub ClosesRun : {X Y : Type 0} → Telling X → Writing Y → X → ℕ → ℕ → Running → Y → Y → Status → Type 0
ClosesRun own sink teller version events old before now result = (r : Run) → own.knows teller r → events ≡ length r.events →
    Stops (old.waiting ++ (own.manner teller).ends version r) (sink.held before) (sink.held now) status.Ok result

-- ---- the events behind a start

-- what is written of them, and how it ends
abbrev pub FollowsEvents : {X Y : Type 0} → Manner → Running → ReaderState → ReaderState → Ghosts X → Writing Y → X → X → Y → Y → Status → Type 0
FollowsEvents m x old new own sink before now out written result = IsOver old.cut (unread old.input (own.left before)) →
    Follows old.cut old.version m (run_from x.revision) old.last old.number (unread old.input (own.left before)) (unread new.input (own.left now))
    x.waiting (sink.held out) (sink.held written) result

-- where writing failed: how far they had been read
abbrev pub FollowsEventsCut : {X Y : Type 0} → Manner → Running → ReaderState → ReaderState → Ghosts X → Writing Y → X → X → Y → Y → Status → Type 0
FollowsEventsCut m x old new own sink before now out written result =
    IsOver old.cut (unread old.input (own.left before)) → result ≡ status.WriteFault →
    FollowsCut old.version m (run_from x.revision) old.last old.number (unread old.input (own.left before)) (unread new.input (own.left now))
    x.waiting (sink.held out) (sink.held written)

-- ---- a whole input

-- what is written of its journal, and how it ends
abbrev pub FollowsWhole : {X Y : Type 0} → Manner → Ghosts X → Writing Y → X → X → Y → Y → Status → Type 0
FollowsWhole m own sink before now out written result =
    FollowsInput (account_of m) (own.left before) (own.left now) (own.given now - own.given before) (sink.held out) (sink.held written) result

-- where writing failed: how far it had been read
abbrev pub FollowsWholeCut : {X Y : Type 0} → Manner → Ghosts X → Writing Y → X → X → Y → Y → Status → Type 0
FollowsWholeCut m own sink before now out written result =
    result ≡ status.WriteFault → LeavesCut (account_of m) (own.left before) (own.left now) (sink.held out) (sink.held written)

-- where reading failed: the source's count of faults rose, or it gave all bytes that may be taken
abbrev pub FailsSource : {X : Type 0} → Ghosts X → Counted X → X → X → Type 0
FailsSource own faulty before now = Rose (faulty.faults before) (faulty.faults now) ⊎ (own.given before + most_taken ≤ own.given now)
