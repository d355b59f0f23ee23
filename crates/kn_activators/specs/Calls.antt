-- What the calls of a replay need, read and keep.
use Rattle.std.specs.Prelude.{◌≡◌, ◌≢◌, ℕ, ◌+◌, ◌<◌, ◌≤◌, ◌^◌, ◌++◌, false, List, IfErr, IfOk, Option, Some, Result, Ok, Err}
use Rattle.kn_io.specs.Prefix.{AppendsPrefix}
use Rattle.kn_io.specs.declared.traits.Source.{Ghosts}
use Rattle.kn_io.specs.declared.traits.Faulty.{Ghosts as Counted}
use Rattle.kn_event.specs.declared.event.Event.{Event}
use Rattle.kn_core.specs.State.{RevisionState}
use Rattle.kn_slices.specs.Traces.{load_of, made_at}
use Rattle.kn_slices.specs.declared.change.Change.{Change}
use Rattle.kn_report.specs.Waiting.{Adds}
use Rattle.kn_journal.specs.declared.error.JournalError.{JournalError}
use Rattle.kn_journal.specs.declared.error.JournalError.TheVariants as journal
use Rattle.kn_journal.specs.Drawing.{error_in}
use Rattle.kn_journal.specs.Journal.{time_most}
use Rattle.kn_journal.specs.LineCalls.{Reads, TakesLines}
use Rattle.kn_journal.specs.Reading.{IsOver, most_taken, unread}
use Rattle.kn_journal.specs.Telling.{Gives, LinesState, Refuses}
use Rattle.kn_activators.specs.declared.error.GroupError.{GroupError}
use Rattle.kn_activators.specs.declared.event.GroupEvent.{GroupEvent}
use Rattle.kn_activators.specs.declared.event.GroupEvent.TheVariants as group
use Rattle.kn_activators.specs.declared.setup.GroupSetup.{GroupSetup}
use Rattle.kn_activators.specs.Breaking.{DrawsEvent}
use Rattle.kn_activators.specs.Reading.{IsGroupEvent}
use Rattle.kn_activators.specs.Replaying.{Follows, Opens}
use Rattle.kn_activators.specs.Sharing.{Outcome, Sharing, and_then, by_each, by_event, by_line, by_one, changes, changes_most, force_lines, numbers_of, openings_text, rows_at, stepped, time_of}
use Rattle.kn_activators.specs.Standing.{AreBefore, Fails, IsSameReplay, Makes, ReplayState, Stands}
use Rattle.kn_activators.specs.Verdict.{OnEvent, next_part}

-- ---- one activator's event

-- activator i is there, and an event at this time can come to it
pub record CanGoOn (x : ReplayState) (i time : ℕ) : Type 0 where
  pub one : i < x.setup.activators
  pub order : AreBefore time x.group
  pub times : time ≤ 2 ^ 42
  pub few : (d : RevisionState) → load_of x.group i d < 2 ^ 54

-- activator i took the event: its rows are in the log, and none of them is added yet
pub record StepsOnly (old new : ReplayState) (i : ℕ) (e : Event) : Type 0 where
  pub log : (x : Sharing) → Stands old.group x → new.log ≡ rows_at old.setup x i e
  pub stands : (x : Sharing) → Stands old.group x → Stands new.group (stepped old.setup x i e)
  pub same : IsSameReplay old new
  pub waiting : new.waiting ≡ old.waiting
  pub order : AreBefore e.time new.group

-- ---- what a call makes

-- of whatever the group stood for this came, by the replay's setup
abbrev pub MakesBy : (GroupSetup → Sharing → Outcome) → ReplayState → ReplayState → Option (List ℕ) → Option (List ℕ) → Type 0
MakesBy f before now old new = Makes (f before.setup) before now old new

-- .. or writing failed amid what waited and its text
abbrev pub FailsBy : (GroupSetup → Sharing → Outcome) → ReplayState → Option (List ℕ) → Option (List ℕ) → Type 0
FailsBy f before old new = Fails (f before.setup) before old new

-- an event of activator i
abbrev pub own_outcome : ℕ → Event → GroupSetup → Sharing → Outcome
own_outcome i e s = λ x. by_one s x i e

-- an event of each activator
abbrev pub each_outcome : Event → GroupSetup → Sharing → Outcome
each_outcome e s = by_each s e (numbers_of s)

-- this change at this time
abbrev pub made_outcome : ℕ → Change → GroupSetup → Sharing → Outcome
made_outcome time change s = λ x. by_one s x change.activator (made_at time change)

-- all due changes at this time
abbrev pub due_outcome : ℕ → GroupSetup → Sharing → Outcome
due_outcome time s = changes s time (changes_most s)

-- an event, and then all due changes
abbrev pub whole_outcome : GroupEvent → GroupSetup → Sharing → Outcome
whole_outcome e s = λ x. and_then (by_event s e x) (due_outcome (time_of e) s)

-- the line of an event of activator i
abbrev pub line_outcome : ℕ → Event → GroupSetup → Sharing → Outcome
line_outcome i e s = by_line s (group.One i e)

-- this text came behind what waited
abbrev pub AddsText : List ℕ → ReplayState → ReplayState → Option (List ℕ) → Option (List ℕ) → Type 0
AddsText text before now old new = Adds old new before.waiting now.waiting text

-- .. or writing failed amid both
abbrev pub CutsText : List ℕ → ReplayState → Option (List ℕ) → Option (List ℕ) → Type 0
CutsText text before old new = AppendsPrefix old new (before.waiting ++ text)

-- the rows of the openings
abbrev pub opens_text : ReplayState → List ℕ
opens_text r = openings_text r.setup r.group.start

-- the lines on limits in force that aren't those that were kept
abbrev pub forces_text : ℕ → ReplayState → List ℕ
forces_text time r = force_lines time 0 r.before r.group.force

-- ---- what stands before the events

-- the lines give a setup and a start, or fail so
abbrev pub OpensLines : LinesState → LinesState → Option (List ℕ) → Option (List ℕ) → Result (GroupSetup × ℕ) JournalError → Type 0
OpensLines old new before now r = Opens (unread old.input before) (unread new.input now) new.number r

-- ---- the next event of an input

-- it is at this time or later, and in range
pub record IsNextGroupEvent (s : GroupSetup) (last : ℕ) (e : GroupEvent) : Type 0 where
  pub order : last ≤ time_of e
  -- .. and no later than any event may be
  pub times : time_of e ≤ time_most
  pub range : IsGroupEvent s.activators s.pods e

-- the first line ahead gives it, whatever the source has left
abbrev pub TellsAhead : GroupSetup → ℕ → LinesState → LinesState → GroupEvent → Type 0
TellsAhead s last old new e = (left : Option (List ℕ)) → Reads (next_part s last) old new left left (Ok (Some e))

-- what a call reads that isn't to read a source again that said its end
pub record ReadsEvent {X : Type 0} (s : GroupSetup) (last : ℕ) (old new : LinesState) (own : Ghosts X) (faulty : Counted X) (before now : X) (r : Result (Option GroupEvent) JournalError) : Type 0 where
  -- the lines give the event or the end
  pub gives : IfOk r (λ found. Gives (next_part s last old.number) found new.number (unread old.input (own.left before)) (unread new.input (own.left now)))
  -- .. or are refused so
  pub refuses : IfErr r (λ e. IsOver old.cut (unread old.input (own.left before)) → Refuses (next_part s last old.number) e (unread old.input (own.left before)))
  pub uncut : r ≡ Err journal.ReadFault → old.cut ≡ false
  pub next : OnEvent r (IsNextGroupEvent s last)
  -- an event's line has so many bytes at least
  pub bytes : OnEvent r (λ e. old.input.taken + 6 ≤ new.input.taken)
  pub text : OnEvent r (λ e. TakesLines old new own before now)
  pub memory : r ≢ Err journal.Memory
  pub few : new.input.taken ≤ most_taken
  pub source : DrawsEvent (error_in r) old new own faulty before now

-- ---- the events behind a start

-- of whatever the group stood for: what is written, and how it ends
abbrev pub FollowsLines : {T : Type 0} → GroupSetup → ℕ → ReplayState → LinesState → LinesState → Option (List ℕ) → Option (List ℕ) → Option (List ℕ) → Option (List ℕ) → Result T GroupError → Type 0
FollowsLines s start replay old new before now written after r = (x : Sharing) → Stands replay.group x → IsOver old.cut (unread old.input before)
    → Follows old.cut s x start old.number (unread old.input before) (unread new.input now) replay.waiting written after r
