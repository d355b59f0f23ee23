-- What a session is, and how a run of one ends.
use Rattle.std.specs.Prelude.{◌≡◌, ◌⊎◌, ℕ, ◌≤◌, ◌^◌, min, Bool, List, map, Option, Err, Ok, length}
use Rattle.std.specs.List.{list_any, position}
use Rattle.std.specs.Io.KnownBytes.{Appends}
use Rattle.kn_io.specs.Prefix.{AppendsPrefix}
use Rattle.kn_trace.specs.Events.{opening, tolds, trace_of}
use Rattle.kn_trace.specs.Laws.{IsLawful, IsSettled}
use Rattle.kn_core.specs.State.{RevisionState, StandsFor}
use Rattle.kn_cell.specs.declared.past.Past.{Past}
use Rattle.kn_cell.specs.Lists.{Each}
use Rattle.kn_cell.specs.History.{IsInBounds, IsLegal, rows_by}
use Rattle.kn_journal.specs.declared.error.JournalError.{JournalError}
use Rattle.kn_journal.specs.declared.journal.Journal.{Journal}
use Rattle.kn_journal.specs.declared.journal.Setup.{Setup}
use Rattle.kn_journal.specs.declared.status.Status.{Status}
use Rattle.kn_journal.specs.declared.status.Status.TheVariants as status
use Rattle.kn_journal.specs.Journal.{good, journal_text, verdict}
use Rattle.kn_journal.specs.Reading.{EndsThere}
use Rattle.kn_plan.specs.declared.plan.Plan.{Plan}
use Rattle.kn_replay.specs.Replaying.{status_of}
use Rattle.kn_session.specs.Lists.{HasOne}
use Rattle.kn_session.specs.Own.{IsAloneIn, IsArrivalOf}
use Rattle.kn_session.specs.Session.{IsFine, IsRowOf}
use Rattle.kn_serve.specs.Ending.{status_by}
use Rattle.kn_print.specs.Printed.{events_of, printed_journal}
use Rattle.kn_serve.specs.Setup.{SaysSetup}

-- what a session may be asked for
pub record IsInRange (plan : Plan) : Type 0 where
  pub slots_least : 1 ≤ plan.slots
  pub slots_most : plan.slots ≤ 64
  pub rounds_least : 1 ≤ plan.rounds
  pub rounds_most : plan.rounds ≤ 10000
  pub room_least : 1 ≤ plan.room
  pub room_most : plan.room ≤ 1000000

-- a session: its setup and its start, the revision as it was opened, the one history, and of each slot whether a round of it
-- ended in a fault, and whether one did in want of memory
pub record Session : Type 0 where
  pub setup : Setup
  pub start : ℕ
  pub opened : RevisionState
  pub history : List Past
  pub faults : List Bool
  pub wants : List Bool

abbrev pub journal_of : Session → Journal
journal_of x = printed_journal x.setup x.start x.history

-- a reading of the clock, taken as 2^42 where it is more
abbrev pub IsStart : (ℕ → Type 0) → ℕ → Type 0
IsStart reading start = (t : ℕ) × reading t × (start ≡ min t (2 ^ 42))

-- the least slot with a fault, or else whether one was in want of memory
abbrev pub status_after : Session → Status
status_after x = status_by (position (λ b. b) x.faults) (list_any (λ b. b) x.wants)

-- one legal history, from the opening of the setup at the start: each row is the ticker's or a slot's, and no other pass
-- ends a request of a pass. Its trace is that of its journal, lawful and settled, and its answers are those of its journal.
-- Of each slot, and of nothing else, it says whether a round of it ended in a fault, and whether one did in want of memory.
-- Where none did, no row is a finish that failed
pub record IsSession (reading : ℕ → Type 0) (slots : ℕ) (x : Session) : Type 0 where
  pub begins : IsStart reading x.start
  pub opens : StandsFor x.opened (opening x.setup.spec x.start)
  pub spec : x.opened.spec ≡ x.setup.spec
  pub clock : x.opened.clock ≡ x.start
  pub legal : IsLegal x.opened x.history
  pub bounds : Each (λ r. IsInBounds r.event) x.history
  pub rows : Each (IsRowOf slots) x.history
  pub alone : (n i : ℕ) → HasOne (IsArrivalOf i) (rows_by n x.history) → IsAloneIn x.history n i
  pub lawful : IsLawful x.setup.spec (trace_of x.setup.spec x.start (events_of x.history))
  pub settled : IsSettled x.setup.spec (trace_of x.setup.spec x.start (events_of x.history))
  pub answers : tolds x.setup.spec (opening x.setup.spec x.start) (events_of x.history) ≡ map (λ p. p.told) x.history
  pub faults : length x.faults ≡ slots
  pub wants : length x.wants ≡ slots
  pub fine : status_after x ≡ status.Ok → Each IsFine x.history

-- the whole journal was printed, and what was printed reads as that journal
pub record EndsWhole (held held' : Option (List ℕ)) (x : Session) (result : Status) : Type 0 where
  pub printed : Appends held held' (journal_text (journal_of x))
  pub reads : verdict (journal_text (journal_of x)) ≡ good (journal_of x)
  pub status : result ≡ status_after x

-- .. or some first bytes of it, where writing failed
abbrev pub Ends : Option (List ℕ) → Option (List ℕ) → Session → Status → Type 0
Ends held held' x result = EndsWhole held held' x result ⊎ ((result ≡ status.WriteFault) × AppendsPrefix held held' (journal_text (journal_of x)))

-- a session over the setup that the input says, which was read to its end, and how it ended. What became of the slots and of the keeper is said by these
-- two of the session
pub record Serves (reading : ℕ → Type 0) (slots : ℕ) (left left' held held' : Option (List ℕ)) (SlotsDid TickerDid : Session → Type 0) (result : Status) : Type 0 where
  pub session : Session
  pub is : IsSession reading slots session
  pub said : SaysSetup left (Ok session.setup)
  pub whole : EndsThere left left'
  pub slots_did : SlotsDid session
  pub ticker_did : TickerDid session
  pub ends : Ends held held' session result

-- no session came to be, by what the input says or for want of memory, and nothing else was touched
pub record Declines (left : Option (List ℕ)) (Same : Type 0) (result : Status) : Type 0 where
  pub error : JournalError
  pub said : SaysSetup left (Err error)
  pub status : result ≡ status_of error
  pub same : Same
