-- The rule of the cell, and what each step tells.
use Rattle.std.specs.Prelude.{ℕ, ◌≡◌, ◌≢◌, ◌⊎◌, ◌≤◌, ◌<◌, ◌+◌, ◌-◌, ◌^◌, List, [], ◌∷◌, ◌++◌, true, false, length}
use mathlib.Core.Option.{Option, none, some}
use lib.ListN.{get_elem?}
use Rattle.atomic_table.specs.Table.{State, Me, Step}
use Rattle.kn_book.specs.State.{IsBookOf}
use Rattle.kn_core.specs.State.{StandsFor}
use Rattle.kn_figures.specs.Tallies.{IsTallyOf}
use Rattle.kn_trace.specs.Trace.{Trace}
use Rattle.kn_cell.specs.declared.past.Past.{Past}
use Rattle.kn_cell.specs.declared.view.Key.{Key}
use Rattle.kn_cell.specs.declared.view.View.{View}
use Rattle.kn_cell.specs.Lists.{StartsWith, Each}
use Rattle.kn_cell.specs.History.{made_by, trace_after, clock_after, IsInBounds, IsLegal, rows_by}
use Rattle.kn_cell.specs.State.{DeskState, live_in}
use Rattle.kn_cell.specs.Views.{opening, Passes, Takings, IsBounded}

-- the value in the slot goes with the log: its rows are those that were not taken out, its book is that of the trace after the log, and its
-- tally that of the entries that the log made
pub record GoesWith (key : Key) (log : List Past) (x : DeskState) : Type 0 where
  pub front : List Past
  pub whole : log ≡ front ++ x.history
  pub count : length front ≡ x.taken
  pub plain : key.lasting ≡ false → x.taken ≡ 0
  pub room : x.room ≡ key.room
  pub spec : x.revision.spec ≡ (opening key).spec
  pub start : x.revision.start ≡ (opening key).start
  pub stands : (c : Trace) → StandsFor (opening key) c → StandsFor x.revision (trace_after (opening key).spec c log)
  pub clock : x.revision.clock ≡ clock_after (opening key).clock log
  pub events : x.revision.events ≡ (opening key).events + length log
  pub fits : length x.history + live_in x.revision ≤ x.room
  pub few : x.taken + length x.history + live_in x.revision ≤ 2 ^ 53
  pub addresses : x.book.addresses ≡ key.addresses
  pub book : (c : Trace) → StandsFor (opening key) c → IsBookOf x.book (trace_after (opening key).spec c log)
  pub tally : (c : Trace) → StandsFor (opening key) c → IsTallyOf x.tally (made_by (opening key).spec c log)

-- nobody has the turn, and the slot is at home
pub record IsResting (key : Key) (log : List Past) (taken : ℕ) (homes : List (Option DeskState)) (views : List View) : Type 0 where
  pub value : DeskState
  pub home : homes ≡ some value ∷ []
  pub goes : GoesWith key log value
  pub taken_is : value.taken ≡ taken
  pub free : (id : ℕ) (v : View) → get_elem? views id ≡ some v → v.turn ≡ false

-- one seat has the turn and the slot, and knows of the whole log and of all that was taken out
pub record IsTaken (log : List Past) (taken : ℕ) (homes : List (Option DeskState)) (views : List View) : Type 0 where
  pub out : homes ≡ none ∷ []
  pub who : ℕ
  pub holder : View
  pub there : get_elem? views who ≡ some holder
  pub has : holder.turn ≡ true
  pub fresh : holder.spent ≡ false
  pub seen : holder.seen ≡ log
  pub gone : holder.gone ≡ taken
  pub alone : (id : ℕ) (v : View) → get_elem? views id ≡ some v → v.turn ≡ true → id ≡ who

pub record IsKept (key : Key) (s : State DeskState View) : Type 0 where
  pub log : List Past
  pub turn : ℕ
  pub bells : List ℕ
  pub taken : ℕ
  pub words : s.words ≡ length log ∷ turn ∷ bells
  pub passes : Passes key log s.views
  pub takings : Takings key taken s.views
  pub phase : ((turn ≡ 0) × IsResting key log taken s.homes s.views) ⊎ ((turn ≢ 0) × IsTaken log taken s.homes s.views)

-- what a pass learns where it takes the turn
pub record Learns (v : View) (log : List Past) (taken : ℕ) : Type 0 where
  pub bounded : IsBounded v.key
  pub legal : IsLegal (opening v.key) log
  pub bounds : Each (λ r. IsInBounds r.event) log
  pub longer : StartsWith log v.seen
  pub others : Each (λ o. StartsWith log o.seen) v.others
  pub own : v.mine ≡ rows_by v.number log
  pub gone : v.gone ≤ taken
  pub most : taken ≤ length log
  pub plain : v.key.lasting ≡ false → taken ≡ 0
  pub scribe : v.scribe ≡ true → (v.gone ≡ taken) × (v.key.lasting ≡ true)

abbrev pub with_turn : View → List Past → ℕ → View
with_turn v log taken = record v { turn = true; seen = log; gone = taken }

abbrev pub missed_one : View → View
missed_one v = record v { missed = v.missed + 1 }

abbrev pub without_turn : View → View
without_turn v = record v { turn = false }

-- the same, where so many rows were taken out
abbrev pub gives_back : View → ℕ → View
gives_back v taken = record v { turn = false; gone = taken }

-- the last row, if there is one
abbrev pub last_row : List Past → List Past
last_row [] = []
last_row (p ∷ []) = p ∷ []
last_row (p ∷ q ∷ ps) = last_row (q ∷ ps)

-- the view after it has counted the rows that were added to the history
abbrev pub recorded : View → List Past → View
recorded v h = record v { seen = h; mine = rows_by v.number h }

pub record GetsTurn (m w : Me DeskState View) : Type 0 where
  pub log : List Past
  pub value : DeskState
  pub after : w ≡ (with_turn m.0 log value.taken, (0, value) ∷ [])
  pub goes : GoesWith m.0.key log value
  pub learns : Learns m.0 log value.taken

-- another pass has the turn, so this one is not all that there is
pub record Misses (m w : Me DeskState View) : Type 0 where
  pub after : w ≡ (missed_one m.0, [])
  pub others : 1 + m.0.free + m.0.back < m.0.key.passes

abbrev pub Takes : Step DeskState → Me DeskState View → ℕ → Me DeskState View → Type 0
Takes st m n w = (n ≡ 0 → GetsTurn m w) × (n ≢ 0 → Misses m w)

-- the last row in the slot is the pass's own, and may come behind all that it has seen
pub record HasRow (m : Me DeskState View) : Type 0 where
  pub value : DeskState
  pub before : List Past
  pub row : Past
  pub slot : m.1 ≡ (0, value) ∷ []
  pub last : value.history ≡ before ++ row ∷ []
  pub own : row.pass ≡ m.0.number
  pub bounds : IsInBounds row.event
  pub legal : IsLegal (opening m.0.key) (m.0.seen ++ row ∷ [])

-- the last row in the slot is now seen
abbrev pub SeesLast : Me DeskState View → Me DeskState View → Type 0
SeesLast m w = (x : DeskState) → m.1 ≡ (0, x) ∷ [] → w ≡ (recorded m.0 (m.0.seen ++ last_row x.history), m.1)

abbrev pub Records : Step DeskState → Me DeskState View → ℕ → Me DeskState View → Type 0
Records st m n w = SeesLast m w

-- the slot may go home: a pass that is not the scribe has taken nothing out
pub record GoesBack (v : View) (x : DeskState) : Type 0 where
  pub goes : GoesWith v.key v.seen x
  pub gone : v.gone ≤ x.taken
  pub same : v.scribe ≡ false → x.taken ≡ v.gone

abbrev pub Gives : Step DeskState → Me DeskState View → ℕ → Me DeskState View → Type 0
Gives st m n w = (x : DeskState) → m.1 ≡ (0, x) ∷ [] → w ≡ (gives_back m.0 x.taken, [])

abbrev pub first_view : Key → View
first_view k = record {
  spent = false;
  turn = false;
  scribe = k.lasting;
  key = k;
  number = 0;
  free = k.passes - 1;
  back = 0;
  missed = 0;
  gone = 0;
  seen = [];
  mine = [];
  others = [];
}

-- what is so of each view: its history is legal, and each list of own rows is what it has of them
pub record IsSound (v : View) : Type 0 where
  pub legal : IsLegal (opening v.key) v.seen
  pub own : v.mine ≡ rows_by v.number v.seen
  pub others : Each (λ o. o.mine ≡ rows_by o.number o.seen) v.others

-- a load that changes nothing
abbrev pub Confirms : Step DeskState → Me DeskState View → ℕ → Me DeskState View → Type 0
Confirms st m n w = (w ≡ m) × IsSound m.0

-- a bell is rung, and nothing else changes
abbrev pub Rings : Step DeskState → Me DeskState View → ℕ → Me DeskState View → Type 0
Rings st m n w = w ≡ m
