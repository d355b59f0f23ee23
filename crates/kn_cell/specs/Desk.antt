-- What taking an event in does.
use Rattle.std.specs.Prelude.{ℕ, ◌≡◌, ◌≤◌, ◌<◌, ◌+◌, ◌-◌, ◌^◌, [], ◌∷◌, ◌++◌, length, min, max, Option}
use Rattle.kn_event.specs.declared.event.Act.{Act}
use Rattle.kn_event.specs.declared.event.Event.{Event}
use Rattle.kn_event.specs.declared.event.Told.{Told}
use Rattle.kn_trace.specs.Events.{react, told_of, need_of}
use Rattle.kn_trace.specs.Trace.{Trace}
use Rattle.kn_book.specs.Book.{next_to_probe}
use Rattle.kn_book.specs.State.{BookState, IsBookOf}
use Rattle.kn_core.specs.State.{RevisionState, StandsFor}
use Rattle.kn_core.specs.Gauges.{count_live}
use Rattle.kn_figures.specs.declared.tally.Tally.{Tally}
use Rattle.kn_figures.specs.Tallies.{IsTallyOf}
use Rattle.kn_cell.specs.declared.past.Full.{Full}
use Rattle.kn_cell.specs.History.{past, IsInBounds}
use Rattle.kn_cell.specs.State.{DeskState, live_in}

-- the least time that is not below `time` and the clock, or 2^42
abbrev pub time_at : ℕ → ℕ → ℕ
time_at clock time = min (max time clock) (2 ^ 42)

abbrev pub event_by_clock : ℕ → ℕ → Act → Event
event_by_clock clock time act = record { time = time_at clock time; act = act }

-- the revision and the book of its pods, with this room, and no rows
abbrev pub new_desk : ℕ → RevisionState → BookState → Tally → DeskState
new_desk room revision book tally = record { room = room; revision = revision; taken = 0; history = []; book = book; tally = tally }

-- how many rows there is room for, beside so many live requests
abbrev pub left_at : DeskState → ℕ → ℕ
left_at x live = min x.room (2 ^ 53 - x.taken) - length x.history - live

-- all rows were taken out
abbrev pub emptied : DeskState → DeskState
emptied x = record x { taken = x.taken + length x.history; history = [] }

-- the event was told what it is told after the rows that there were, and has its row
pub record Applies (old : DeskState) (pass : ℕ) (act : Act) (time : ℕ) (told : Told) (new : DeskState) : Type 0 where
  pub room : new.room ≡ old.room
  pub taken : new.taken ≡ old.taken
  pub row : new.history ≡ old.history ++ past pass (event_by_clock old.revision.clock time act) told ∷ []
  pub fits : length new.history + live_in new.revision ≤ new.room
  pub few : new.taken + length new.history + live_in new.revision ≤ 2 ^ 53
  pub order : old.revision.clock ≤ time_at old.revision.clock time
  pub bounds : IsInBounds (event_by_clock old.revision.clock time act)
  pub spec : new.revision.spec ≡ old.revision.spec
  pub start : new.revision.start ≡ old.revision.start
  pub clock : new.revision.clock ≡ time_at old.revision.clock time
  pub events : new.revision.events ≡ old.revision.events + 1
  pub answer : (c : Trace) → StandsFor old.revision c → told ≡ told_of old.revision.spec c (event_by_clock old.revision.clock time act)
  pub stands : (c : Trace) → StandsFor old.revision c → StandsFor new.revision (c ++ react old.revision.spec c (event_by_clock old.revision.clock time act))
  pub need : (c : Trace) → StandsFor old.revision c → need_of c act ≤ left_at old (count_live c)
  pub addresses : new.book.addresses ≡ old.book.addresses
  pub book : (c : Trace) → StandsFor old.revision c → IsBookOf old.book c
      → IsBookOf new.book (c ++ react old.revision.spec c (event_by_clock old.revision.clock time act))
  pub tally : (c counted : Trace) → StandsFor old.revision c → IsTallyOf old.tally counted
      → IsTallyOf new.tally (counted ++ react old.revision.spec c (event_by_clock old.revision.clock time act))

-- the room is too small for the act
pub record IsTooSmall (old : DeskState) (act : Act) (full : Full) : Type 0 where
  pub room : full.room ≡ old.room
  pub used : full.used ≡ length old.history
  pub live : (c : Trace) → StandsFor old.revision c → full.live ≡ count_live c
  pub short : (c : Trace) → StandsFor old.revision c → left_at old (count_live c) < need_of c act

-- the least Starting pod that is not below this number and has an address in the desk's book, with that address
abbrev pub IsNextToProbe : DeskState → ℕ → Option (ℕ × ℕ) → Type 0
IsNextToProbe x from r = (c : Trace) → StandsFor x.revision c → IsBookOf x.book c → r ≡ next_to_probe x.book.addresses c from
