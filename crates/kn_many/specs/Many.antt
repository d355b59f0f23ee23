-- What a session over several revisions is, and how a run of one ends.
use Rattle.std.specs.Prelude.{◌≡◌, ◌⊎◌, ◌<◌, ◌≤◌, ◌*◌, ℕ, Bool, List, map, length, slice_index_or, Option, Ok, Err, All}
use Rattle.std.specs.List.{list_any, position, range_with_len}
use Rattle.std.specs.Io.KnownBytes.{Appends}
use Rattle.kn_event.specs.declared.revision.Spec.{Spec}
use Rattle.kn_event.specs.Lists.{EachIs}
use Rattle.kn_trace.specs.Events.{opening}
use Rattle.kn_trace.specs.Trace.{Trace}
use Rattle.kn_core.specs.State.{RevisionState, StandsFor}
use Rattle.kn_io.specs.Links.{Link}
use Rattle.kn_io.specs.Prefix.{AppendsPrefix}
use Rattle.kn_core.specs.Gauges.{count_live}
use Rattle.kn_journal.specs.declared.error.JournalError.{JournalError}
use Rattle.kn_journal.specs.declared.journal.Setup.{Setup}
use Rattle.kn_journal.specs.declared.status.Status.{Status}
use Rattle.kn_journal.specs.declared.status.Status.TheVariants as status
use Rattle.kn_journal.specs.Journal.{good, journal_text, verdict}
use Rattle.kn_journal.specs.Reading.{EndsThere}
use Rattle.kn_plan.specs.declared.wide_plan.WidePlan.{WidePlan}
use Rattle.kn_print.specs.Printed.{journals_text}
use Rattle.kn_replay.specs.Replaying.{status_of}
use Rattle.kn_request.specs.declared.slot.WideSlot.{WideSlot}
use Rattle.kn_request.specs.Wide.{at_count, at_wire}
use Rattle.kn_session.specs.Session.{IsTicked}
use Rattle.kn_session.specs.Wide.{WideSides, WideSlotServed, at_flag}
use Rattle.kn_serve.specs.Ending.{status_by}
use Rattle.kn_serve.specs.Opening.{IsEmptyWork}
use Rattle.kn_serve.specs.Running.{IsSession, Session, journal_of}
use Rattle.kn_many.specs.Setups.{SaysSetups}

-- what such a session may be asked for
pub record IsInWideRange (plan : WidePlan) : Type 0 where
  pub slots_least : 1 ≤ plan.slots
  pub slots_most : plan.slots ≤ 64
  pub rounds_least : 1 ≤ plan.rounds
  pub rounds_most : plan.rounds ≤ 10000
  pub room_least : 1 ≤ plan.room
  pub lists_least : 1 ≤ length plan.pods
  pub lists_most : length plan.pods ≤ 16
  pub product : plan.room * length plan.pods ≤ 1000000

-- a slot with a link and an empty work for each of so many revisions
pub record IsReadyFor {C L : Type 0} (count : ℕ) (s : WideSlot C L) : Type 0 where
  pub links : length s.links.items ≡ count
  pub works : length s.works.items ≡ count
  pub empty : All IsEmptyWork s.works.items

-- a revision of this specification as it is opened at the start, with no live request
pub record IsOpenedAt (spec : Spec) (start : ℕ) (r : RevisionState) : Type 0 where
  pub stands : StandsFor r (opening spec start)
  pub spec_is : r.spec ≡ spec
  pub clock : r.clock ≡ start
  pub events : r.events ≡ 0
  pub live : (c : Trace) → StandsFor r c → count_live c ≡ 0

-- the revision of each setup
abbrev pub AreOpenedAt : List Setup → ℕ → List RevisionState → Type 0
AreOpenedAt setups start rs =
    (v : ℕ) (b : RevisionState) (s : Setup) → v < length setups → IsOpenedAt (slice_index_or setups v s).spec start (slice_index_or rs v b)

-- ---- the ending

-- whether a round of the slot ended in a fault, of whichever revision, and whether one did in want of memory
abbrev pub one_failed : List Session → ℕ → Bool
one_failed xs i = list_any (λ x. at_flag x.faults i) xs

abbrev pub one_wanted : List Session → ℕ → Bool
one_wanted xs i = list_any (λ x. at_flag x.wants i) xs

-- the least of so many slots with a fault, or else whether one was in want of memory
abbrev pub status_after_all : ℕ → List Session → Status
status_after_all slots xs = status_by (position (one_failed xs) (range_with_len 0 slots)) (list_any (one_wanted xs) (range_with_len 0 slots))

-- all journals were printed, one after the other, and the text of each reads as that journal
pub record EndsAllWhole (held held' : Option (List ℕ)) (slots : ℕ) (xs : List Session) (result : Status) : Type 0 where
  pub printed : Appends held held' (journals_text (map journal_of xs))
  pub reads : EachIs (λ x. verdict (journal_text (journal_of x)) ≡ good (journal_of x)) xs
  pub status : result ≡ status_after_all slots xs

-- .. or some first bytes of them, where writing failed
abbrev pub EndAll : Option (List ℕ) → Option (List ℕ) → ℕ → List Session → Status → Type 0
EndAll held held' slots xs result = EndsAllWhole held held' slots xs result ⊎ ((result ≡ status.WriteFault) × AppendsPrefix held held' (journals_text (map journal_of xs)))

-- ---- what became of the slots and of the keepers

-- all rounds of slot i were served, each by the revision that its head named. The flags of a revision's session at the slot
-- are those of the rounds that count there
abbrev pub IsSlotOf : (ℕ → Type 0) → ℕ → ℕ → List Session → ℕ → WideSides → WideSides → Type 0
IsSlotOf reading room rounds xs i from to =
    WideSlotServed reading (map (λ x. x.setup.spec) xs) (map (λ x. x.opened) xs) room rounds (map (λ x. x.history) xs) i from to (map (λ x. at_flag x.faults i) xs) (map (λ x. at_flag x.wants i) xs)

-- the ticker made its turns of each revision, with its own keeper
abbrev pub AreTicked : (ℕ → Type 0) → ℕ → List Session → List (Option Link) → List (Option Link) → List ℕ → List ℕ → Type 0
AreTicked reading room xs ws ws' bs bs' =
    (v : ℕ) (x : Session) → v < length xs → IsTicked reading (slice_index_or xs v x).start (slice_index_or xs v x).opened room (slice_index_or xs v x).history (at_wire ws v) (at_wire ws' v) (at_count bs v) (at_count bs' v)

-- ---- the course

-- a session of each revision that the input says, in its order, and how they ended. The input was read to its end. What became of the
-- slots and of the keepers is said by these two of the sessions
pub record ServesAll (reading : ℕ → Type 0) (slots count : ℕ) (left left' held held' : Option (List ℕ)) (SlotsDid TickerDid : List Session → Type 0) (result : Status) : Type 0 where
  pub sessions : List Session
  pub many : length sessions ≡ count
  pub each : EachIs (IsSession reading slots) sessions
  pub said : SaysSetups count left (Ok (map (λ x. x.setup) sessions))
  pub whole : EndsThere left left'
  pub slots_did : SlotsDid sessions
  pub ticker_did : TickerDid sessions
  pub ends : EndAll held held' slots sessions result

-- no session came to be, by what the input says or for want of memory, and nothing else was touched
pub record DeclinesAll (count : ℕ) (left : Option (List ℕ)) (Same : Type 0) (result : Status) : Type 0 where
  pub error : JournalError
  pub said : SaysSetups count left (Err error)
  pub status : result ≡ status_of error
  pub same : Same
