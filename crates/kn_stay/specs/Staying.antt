-- How a server that goes on comes and goes.
use Rattle.std.specs.Prelude.{◌≡◌, ◌⊎◌, ◌+◌, ◌*◌, ◌^◌, ℕ, ◌≤◌, List, length, map, take, Option, Ok, Err}
use Rattle.std.specs.Io.KnownBytes.{Appends}
use Rattle.kn_cell.specs.Shown.{PassView}
use Rattle.kn_io.specs.Links.{Link}
use Rattle.kn_io.specs.Prefix.{AppendsPrefix}
use Rattle.kn_journal.specs.declared.error.JournalError.{JournalError}
use Rattle.kn_journal.specs.declared.journal.Setup.{Setup}
use Rattle.kn_journal.specs.declared.status.Status.{Status}
use Rattle.kn_journal.specs.declared.status.Status.TheVariants as status
use Rattle.kn_journal.specs.Journal.{good, journal_text, verdict}
use Rattle.kn_print.specs.Printed.{preface}
use Rattle.kn_replay.specs.Replaying.{status_of}
use Rattle.kn_request.specs.declared.slot.Slot.{Slot}
use Rattle.kn_request.specs.Terms.{watched}
use Rattle.kn_session.specs.Changes.{Change, Lent, became, lent, was}
use Rattle.kn_session.specs.Lasting.{Attended, SlotLasted}
use Rattle.kn_session.specs.Lists.{EachDone}
use Rattle.kn_session.specs.Passes.{IsNewOf, Kind, lasting_kind}
use Rattle.kn_session.specs.Rounds.{IsPaced, Sides}
use Rattle.kn_session.specs.Session.{IsTickedIn}
use Rattle.kn_outcomes.specs.Outcomes.{IsOver}
use Rattle.kn_serve.specs.Front.{SaysFront}
use Rattle.kn_serve.specs.Running.{IsSession, IsStart, Session, journal_of}
use Rattle.kn_stay.specs.declared.setting.StaySetting.{StaySetting}
use Rattle.kn_stay.specs.declared.stayed.Stayed.{Stayed}
use Rattle.kn_stay.specs.declared.stayed.Stayed.TheVariants as stayed
use Rattle.kn_stay.specs.Pods.{HasTooMany, named_pods}

-- a program that ends so has this status
abbrev pub status_of_stayed : Stayed → Status
status_of_stayed (stayed.Ended s) = s
status_of_stayed (stayed.TooManyPods pods) = status.Usage

-- what is seen of the outside: what is told of a slot and of a keeper, which counts these faults, the clock's readings, what the output
-- holds; of a pace, what holds where it goes on behind so many rounds, and where it ends, and whether it may say that a client has left; and
-- what the page's attendant does
pub record SeenStaying (C L K O P W : Type 0) : Type 1 where
  pub at : Slot C L → Sides
  pub told : L → Option Link
  pub faults : L → ℕ
  pub reading : K → ℕ → Type 0
  pub held : O → Option (List ℕ)
  pub begins : P → ℕ → Type 0
  pub ends : P → ℕ → Type 0
  pub leaves : Type 0
  pub attends : W → W → PassView → PassView → Type 0

-- what was handed in to be changed, but for the setup and the output: as it was, and as it became
pub record Handed (C L W : Type 0) : Type 0 where
  pub slots : List (Slot C L)
  pub slots' : List (Slot C L)
  pub keeper : L
  pub keeper' : L
  pub page : W
  pub page' : W

-- it wasn't changed
pub record AreUntouched {C L W : Type 0} (h : Handed C L W) : Type 0 where
  pub slots : h.slots' ≡ h.slots
  pub keeper : h.keeper' ≡ h.keeper
  pub page : h.page' ≡ h.page

-- ---- nobody was served

-- by what the input says of a setup, or for want of memory, and nothing else was touched
pub record IsDeclined (left : Option (List ℕ)) (Same : Type 0) (result : Stayed) : Type 0 where
  pub error : JournalError
  pub said : SaysFront left (Err error)
  pub status : result ≡ stayed.Ended (status_of error)
  pub same : Same

-- the setup names more pods than there are addresses, and nothing else was touched
pub record HasNoPlace (left : Option (List ℕ)) (addresses : ℕ) (Same : Type 0) (result : Stayed) : Type 0 where
  pub setup : Setup
  pub said : SaysFront left (Ok setup)
  pub many : HasTooMany addresses setup.spec
  pub answer : result ≡ stayed.TooManyPods (named_pods setup.spec)
  pub same : Same

-- the setup is that of the input, and there are addresses for its pods
pub record IsTaken (left : Option (List ℕ)) (addresses : ℕ) (setup : Setup) : Type 0 where
  pub said : SaysFront left (Ok setup)
  pub few : HasTooMany addresses setup.spec → ⊥

-- what stands before the events couldn't be written, or behind it there was no memory for the slots. Of its setup this is said
pub record Falters (Said : Setup → Type 0) (reading : ℕ → Type 0) (held held' : Option (List ℕ)) (Same : Type 0) (result : Status) : Type 0 where
  pub setup : Setup
  pub start : ℕ
  pub said : Said setup
  pub begins : IsStart reading start
  pub same : Same
  pub ends : ((result ≡ status.WriteFault) × AppendsPrefix held held' (preface setup start)) ⊎ ((result ≡ status.Memory) × Appends held held' (preface setup start))

-- ---- everybody who came was served

-- the whole journal was printed, and what was printed reads as that journal
pub record PrintsAll (held held' : Option (List ℕ)) (x : Session) : Type 0 where
  pub printed : Appends held held' (journal_text (journal_of x))
  pub reads : verdict (journal_text (journal_of x)) ≡ good (journal_of x)

-- .. or some first bytes of it, and no fewer than what stands before its events
pub record PrintsSome (held held' : Option (List ℕ)) (x : Session) : Type 0 where
  pub many : ℕ
  pub least : length (preface x.setup x.start) ≤ many
  pub most : many ≤ length (journal_text (journal_of x))
  pub printed : Appends held held' (take many (journal_text (journal_of x)))

-- the one where writing failed, the other where it didn't
abbrev pub EndsBy : Option (List ℕ) → Option (List ℕ) → Session → Status → Type 0
EndsBy held held' x result = ((result ≡ status.Ok) × PrintsAll held held' x) ⊎ ((result ≡ status.WriteFault) × PrintsSome held held' x)

-- what became of the slots, whose works have the marks, over a cell of this kind. The tags of two slots are 10^12 apart
pub record SlotsStayed {C L K O P W : Type 0} (w : SeenStaying C L K O P W) (clock : K) (pace : P) (ss ts : List (Slot C L)) (k : Kind) (x : Session) : Type 0 where
  pub faults : x.faults ≡ map (λ t. t.work.fault) ts
  pub wants : x.wants ≡ map (λ t. t.work.memory) ts
  pub each : EachDone (λ i s t. SlotLasted k (watched (w.reading clock) w.leaves) (IsPaced (w.begins pace) (w.ends pace)) x.setup.spec (i * 10 ^ 12) x.history i
      (w.at s) (w.at t) t.work.fault t.work.memory) ss ts

-- A session over a setup of which this is said, with room for so many rows and live requests together, and with so many addresses. What
-- the page saw at last is a beginning of the one history, after which no request is live
pub record Stays {C L K O P W : Type 0} (w : SeenStaying C L K O P W) (clock : K) (pace : P) (room addresses : ℕ) (Said : Setup → Type 0) (h : Handed C L W)
    (held held' : Option (List ℕ)) (result : Status) : Type 0 where
  pub session : Session
  pub is : IsSession (w.reading clock) (length h.slots) session
  pub said : Said session.setup
  pub over : IsOver session.opened session.history
  pub slots : SlotsStayed w clock pace h.slots h.slots' (lasting_kind session.opened room addresses) session
  pub keeper : IsTickedIn (w.reading clock) session.start (lasting_kind session.opened room addresses) session.history
      (w.told h.keeper) (w.told h.keeper') (w.faults h.keeper) (w.faults h.keeper')
  pub page : Attended (IsNewOf (lasting_kind session.opened room addresses) (2 + length h.slots)) (w.attends h.page h.page') session.history
  pub ends : EndsBy held held' session result

-- nobody was served, or everybody who came
abbrev pub Goes : {C L K O P W : Type 0} → SeenStaying C L K O P W → K → P → ℕ → ℕ → (Setup → Type 0) → Handed C L W → O → O → Status → Type 0
Goes w clock pace room addresses Said h out out' result =
    Falters Said (w.reading clock) (w.held out) (w.held out') (AreUntouched h) result
    ⊎ Stays w clock pace room addresses Said h (w.held out) (w.held out') result

-- how a server by this setting comes and goes, whose input has this left
abbrev pub StaysBy : {C L K G O P W D E : Type 0} → SeenStaying C L K O P W → Lent (StaySetting K G P D E) → Option (List ℕ) → Change (List (Slot C L)) → Change L → Change O → Change W → Stayed → Type 0
StaysBy {C} {L} {K} {G} {O} {P} {W} w setting left slots keeper out page result =
    let h : Handed C L W = record { slots = was slots; slots' = became slots; keeper = was keeper; keeper' = became keeper; page = was page; page' = became page } in
    let addresses = (lent setting).addresses in
    IsDeclined left (AreUntouched h × (became out ≡ was out)) result
    ⊎ HasNoPlace left addresses (AreUntouched h × (became out ≡ was out)) result
    ⊎ ((s : Status) × (result ≡ stayed.Ended s) × Goes w (lent setting).clock.now (lent setting).pace.now (lent setting).room addresses (IsTaken left addresses) h (was out) (became out) s)
