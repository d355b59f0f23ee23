-- A seat with the turn, and what it does.
use Rattle.std.specs.Prelude.{ℕ, ◌≡◌, ◌≤◌, ◌<◌, ◌+◌, ◌-◌, List, [], ◌∷◌, ◌++◌, true, false, length}
use Rattle.atomic_table.specs.Table.{Me}
use Rattle.kn_event.specs.declared.event.Act.{Act}
use Rattle.kn_event.specs.declared.event.Told.{Told}
use Rattle.kn_core.specs.State.{StandsFor}
use Rattle.kn_trace.specs.Events.{need_of}
use Rattle.kn_trace.specs.Trace.{Trace}
use Rattle.kn_core.specs.Gauges.{count_live}
use Rattle.kn_cell.specs.declared.past.Past.{Past}
use Rattle.kn_cell.specs.declared.past.Full.{Full}
use Rattle.kn_cell.specs.declared.view.View.{View}
use Rattle.kn_cell.specs.History.{trace_after, clock_after, room_for, IsInBounds, IsLegal, past}
use Rattle.kn_cell.specs.State.{DeskState}
use Rattle.kn_cell.specs.Desk.{event_by_clock}
use Rattle.kn_cell.specs.Views.{opening, IsBounded}
use Rattle.kn_cell.specs.Rule.{GoesWith, without_turn, recorded, Learns}

-- the seat has the turn and the slot, and has seen the whole log
pub record HasTurn (m : Me DeskState View) : Type 0 where
  pub turn : m.0.turn ≡ true
  pub fresh : m.0.spent ≡ false
  pub value : DeskState
  pub slot : m.1 ≡ (0, value) ∷ []
  pub goes : GoesWith m.0.key m.0.seen value
  pub gone : m.0.gone ≡ value.taken
  pub bounded : IsBounded m.0.key
  pub legal : IsLegal (opening m.0.key) m.0.seen

-- the view v waited, and `misses` times another had the turn. It then got the turn
pub record WaitsForTurn (v : View) (m : Me DeskState View) : Type 0 where
  pub log : List Past
  pub taken : ℕ
  pub missed : ℕ
  pub later : v.missed ≤ missed
  pub alone : 1 + v.free + v.back ≡ v.key.passes → missed ≡ v.missed
  pub learns : Learns v log taken
  pub view_is : m.0 ≡ record v { turn = true; seen = log; gone = taken; missed = missed }
  pub has : HasTurn m

-- the event of the view's act, after all that it has seen, and what it was told
abbrev pub row_of : View → Act → ℕ → Told → Past
row_of v act time told = past v.number (event_by_clock (clock_after (opening v.key).clock v.seen) time act) told

-- how many rows there is room for after all that the view has seen
abbrev pub room_of : View → ℕ → ℕ
room_of v live = room_for v.key.lasting v.key.room v.gone (length v.seen) live

-- the trace after all that the view has seen
abbrev pub trace_seen : View → Trace → Trace
trace_seen v c = trace_after (opening v.key).spec c v.seen

-- it is so of the trace after all that the view has seen, whichever the opening stands for
abbrev pub SeesAt : View → (Trace → Type 0) → Type 0
SeesAt v P = (c : Trace) → StandsFor (opening v.key) c → P (trace_seen v c)

-- the row was recorded, and the seat still has the turn
pub record Enters (v : View) (act : Act) (time : ℕ) (told : Told) (m : Me DeskState View) : Type 0 where
  pub view_is : m.0 ≡ recorded v (v.seen ++ row_of v act time told ∷ [])
  pub has : HasTurn m
  pub bounds : IsInBounds (row_of v act time told).event
  pub need : (c : Trace) → StandsFor (opening v.key) c → need_of (trace_seen v c) act ≤ room_of v (count_live (trace_seen v c))

-- the row was recorded, and the turn given back
pub record RecordsRow (v : View) (act : Act) (time : ℕ) (told : Told) (m : Me DeskState View) : Type 0 where
  pub after_is : m ≡ (without_turn (recorded v (v.seen ++ row_of v act time told ∷ [])), [])
  pub legal : IsLegal (opening v.key) (v.seen ++ row_of v act time told ∷ [])
  pub bounds : IsInBounds (row_of v act time told).event
  pub need : (c : Trace) → StandsFor (opening v.key) c → need_of (trace_seen v c) act ≤ room_of v (count_live (trace_seen v c))

pub record Overflows (v : View) (act : Act) (full : Full) : Type 0 where
  pub room : full.room ≡ v.key.room
  pub used : full.used ≡ length v.seen - v.gone
  pub live : (c : Trace) → StandsFor (opening v.key) c → full.live ≡ count_live (trace_seen v c)
  pub short : (c : Trace) → StandsFor (opening v.key) c → room_of v (count_live (trace_seen v c)) < need_of (trace_seen v c) act
