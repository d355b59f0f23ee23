-- What contracts see of a pass, and what the calls of a cell do to it.
use Rattle.std.specs.Prelude.{ℕ, ◌≡◌, ◌⊎◌, ◌≤◌, ◌<◌, ◌+◌, ◌-◌, ◌||◌, Bool, List, [], ◌∷◌, ◌++◌, true, false, length, Result, Ok, Err}
use mathlib.Core.Option.{some}
use lib.ListN.{get_elem?}
use Rattle.atomic_table.specs.Seated.{TableId}
use Rattle.atomic_table.specs.declared.shared.Seat.{Seat}
use Rattle.kn_event.specs.declared.event.Act.{Act}
use Rattle.kn_event.specs.declared.event.Event.{Event}
use Rattle.kn_event.specs.declared.event.Told.{Told}
use Rattle.kn_core.specs.State.{RevisionState, StandsFor, StandsForSome}
use Rattle.kn_trace.specs.Events.{need_of}
use Rattle.kn_trace.specs.Laws.{IsInert, IsLawful, IsSettled}
use Rattle.kn_trace.specs.Trace.{Trace}
use Rattle.kn_core.specs.Gauges.{count_live}
use Rattle.kn_cell.specs.declared.past.Past.{Past}
use Rattle.kn_cell.specs.declared.past.Full as kept
use Rattle.kn_cell.specs.declared.past.TryError.{TryError}
use Rattle.kn_cell.specs.declared.past.TryError.TheVariants.{Busy, Full}
use Rattle.kn_cell.specs.declared.view.Joined.{Joined}
use Rattle.kn_cell.specs.declared.view.View.{View}
use Rattle.kn_cell.specs.Lists.{StartsWith, Each}
use Rattle.kn_cell.specs.History.{trace_after, clock_after, room_for, IsInBounds, IsLegal, rows_by, past}
use Rattle.kn_cell.specs.State.{DeskState}
use Rattle.kn_cell.specs.Desk.{event_by_clock}
use Rattle.kn_cell.specs.Splitting.{gone_of}

pub record PassView : Type 0 where
  pub cell : TableId
  pub number : ℕ
  pub free : ℕ
  pub back : ℕ
  pub missed : ℕ
  pub seen : List Past
  pub mine : List Past
  pub others : List Joined
  pub opening : RevisionState
  pub room : ℕ
  pub passes : ℕ
  -- rows may be taken out of this cell's history
  pub lasting : Bool
  -- this pass may take them
  pub scribe : Bool
  -- how many had been taken out when the pass last had the turn
  pub gone : ℕ
  -- how many addresses the book of this cell's pods has; with 0 there is none, and a pod's number is its address
  pub book : ℕ

abbrev pub shown : TableId → View → PassView
shown t v = record {
  cell = t;
  number = v.number;
  free = v.free;
  back = v.back;
  missed = v.missed;
  seen = v.seen;
  mine = v.mine;
  others = v.others;
  opening = v.key.opening.value;
  room = v.key.room;
  passes = v.key.passes;
  lasting = v.key.lasting;
  scribe = v.scribe;
  gone = v.gone;
  book = v.key.addresses;
}

-- the seat of a pass between two calls, beside the numbers that the pass keeps itself
pub record IsIdle (seat : Seat DeskState View) (number free passes : ℕ) : Type 0 where
  pub number_is : seat.me.0.number ≡ number
  pub free_is : seat.me.0.free ≡ free
  pub passes_is : seat.me.0.key.passes ≡ passes
  pub low : free ≤ passes
  pub mine : number < passes
  pub few : passes ≤ 1100
  pub words : seat.table_id.words ≡ passes + 2
  pub fresh : seat.me.0.spent ≡ false
  pub idle : seat.me.0.turn ≡ false
  pub empty : seat.me.1 ≡ []

-- The pass has seen more, of its rows and of those that were taken out, `given` of them by itself. Nothing else has changed but `mine` and
-- `missed`. No row that it has seen lost a pod
pub record LooksBy (given : ℕ) (old new : PassView) : Type 0 where
  pub same : new ≡ record old { seen = new.seen; mine = new.mine; missed = new.missed; gone = new.gone }
  pub missed : old.missed ≤ new.missed
  pub alone : 1 + old.free + old.back ≡ old.passes → new.missed ≡ old.missed
  pub longer : StartsWith new.seen old.seen
  pub others : Each (λ o. StartsWith new.seen o.seen) old.others
  pub legal : IsLegal old.opening new.seen
  pub bounds : Each (λ r. IsInBounds r.event) new.seen
  pub own : new.mine ≡ rows_by old.number new.seen
  pub some : StandsForSome old.opening
  pub gone : old.gone ≤ new.gone
  pub most : new.gone ≤ length new.seen
  pub plain : old.lasting ≡ false → new.gone ≡ 0
  pub still : old.scribe ≡ true → new.gone ≡ old.gone + given

-- the same, where the pass takes no row out
abbrev pub Looks : PassView → PassView → Type 0
Looks = LooksBy 0

-- it is so of the trace after all that the pass has seen, whichever the opening stands for
abbrev pub Sees : PassView → (Trace → Type 0) → Type 0
Sees p P = (c : Trace) → StandsFor p.opening c → P (trace_after p.opening.spec c p.seen)

-- how many rows there is room for after these, beside so many live requests. Where rows are never taken out, it is the room less both
abbrev pub left_in : PassView → List Past → ℕ → ℕ
left_in p front live = room_for p.lasting p.room p.gone (length front) live

-- the row of this act was recorded, last of all that is seen
pub record RecordsLast (old : PassView) (act : Act) (time : ℕ) (told : Told) (new : PassView) : Type 0 where
  pub front : List Past
  pub row : Past
  pub row_is : row ≡ past old.number (event_by_clock (clock_after old.opening.clock front) time act) told
  pub seen : new.seen ≡ front ++ row ∷ []
  pub mine : new.mine ≡ old.mine ++ row ∷ []
  pub longer : StartsWith front old.seen
  pub room : (c : Trace) → StandsFor old.opening c → need_of (trace_after old.opening.spec c front) act ≤ left_in new front (count_live (trace_after old.opening.spec c front))

-- nothing was recorded, since the room is too small after all that is seen
pub record Misfits (old : PassView) (act : Act) (full : kept.Full) (new : PassView) : Type 0 where
  pub mine : new.mine ≡ old.mine
  pub room : full.room ≡ old.room
  pub used : full.used ≡ length new.seen - new.gone
  pub live : (c : Trace) → StandsFor old.opening c → full.live ≡ count_live (trace_after old.opening.spec c new.seen)
  pub short : (c : Trace) → StandsFor old.opening c → left_in new new.seen (count_live (trace_after old.opening.spec c new.seen)) < need_of (trace_after old.opening.spec c new.seen) act

-- the first pass of a new cell whose history is kept whole
abbrev pub first_shown : TableId → RevisionState → ℕ → ℕ → PassView
first_shown t b room passes = record {
  cell = t;
  number = 0;
  free = passes - 1;
  back = 0;
  missed = 0;
  seen = [];
  mine = [];
  others = [];
  opening = b;
  room = room;
  passes = passes;
  lasting = false;
  scribe = false;
  gone = 0;
  book = 0;
}

-- the same, where rows may be taken out, by this pass, and pods have so many addresses
abbrev pub first_lasting : TableId → RevisionState → ℕ → ℕ → ℕ → PassView
first_lasting t b room passes addresses = record (first_shown t b room passes) { lasting = true; scribe = true; book = addresses }

-- the first pass of a new cell, from which rows may be taken out or not, and whose pods have so many addresses
abbrev pub first_opened : Bool → TableId → RevisionState → ℕ → ℕ → ℕ → PassView
first_opened lasting t b room passes addresses = record (first_shown t b room passes) { lasting = lasting; scribe = lasting; book = addresses }

-- the whole answer of an attempt that does not wait
abbrev pub Tries : PassView → Act → ℕ → Result Told TryError → PassView → Type 0
Tries old act time (Ok told) new = Looks old new × RecordsLast old act time told new × (new.missed ≡ old.missed)
Tries old act time (Err Busy) new = (new ≡ record old { missed = old.missed + 1 }) × (1 + old.free + old.back < old.passes)
Tries old act time (Err (Full full)) new = Looks old new × Misfits old act full new × (new.missed ≡ old.missed)

abbrev pub new_shown : PassView → PassView
new_shown p = record {
  cell = p.cell;
  number = p.passes - p.free;
  free = 0;
  back = 0;
  missed = 0;
  seen = p.seen;
  mine = [];
  others = [];
  opening = p.opening;
  room = p.room;
  passes = p.passes;
  lasting = p.lasting;
  scribe = false;
  gone = p.gone;
  book = p.book;
}

abbrev pub joined_shown : PassView → PassView → PassView
joined_shown p q = record p {
  back = p.back + 1 + q.free + q.back;
  others = p.others ++ q.others ++ record { number = q.number; seen = q.seen; mine = q.mine } ∷ [];
  scribe = p.scribe || q.scribe;
  gone = gone_of p.scribe p.gone q.gone;
}

-- the number is the pass's own, or of a pass that was joined to it
abbrev pub IsNumberOf : PassView → ℕ → Type 0
IsNumberOf p n = (n ≡ p.number) ⊎ ((k : ℕ) × (o : Joined) × (get_elem? p.others k ≡ some o) × (n ≡ o.number))

-- what is left when the last pass closes the cell
pub record ClosesCell (p : PassView) (revision : RevisionState) (history : List Past) : Type 0 where
  pub legal : IsLegal p.opening history
  pub bounds : Each (λ r. IsInBounds r.event) history
  pub spec : revision.spec ≡ p.opening.spec
  pub start : revision.start ≡ p.opening.start
  pub stands : (c : Trace) → StandsFor p.opening c → StandsFor revision (trace_after p.opening.spec c history)
  pub clock : revision.clock ≡ clock_after p.opening.clock history
  pub events : revision.events ≡ p.opening.events + length history
  pub seen : StartsWith history p.seen
  pub mine : p.mine ≡ rows_by p.number history
  pub others : Each (λ o. StartsWith history o.seen × (o.mine ≡ rows_by o.number history)) p.others
  pub numbers : Each (λ r. IsNumberOf p r.pass) history

-- The last pass closes the cell with the rows that are left. The history is `front`, the rows that were taken out, and then these. It is
-- lawful; after each beginning of it the trace is settled, and an event that is refused changes nothing else
pub record IsClosed (p : PassView) (revision : RevisionState) (rest : List Past) : Type 0 where
  pub front : List Past
  pub plain : p.lasting ≡ false → front ≡ []
  pub gone : p.gone ≤ length front
  pub exact : p.scribe ≡ true → length front ≡ p.gone
  pub closes : ClosesCell p revision (front ++ rest)
  pub lawful : (c : Trace) → StandsFor p.opening c → IsLawful p.opening.spec (trace_after p.opening.spec c (front ++ rest))
  pub settled : (c : Trace) → StandsFor p.opening c → IsSettled p.opening.spec (trace_after p.opening.spec c (front ++ rest))
  pub always_settled : (c : Trace) (first : List Past) → StandsFor p.opening c → StartsWith (front ++ rest) first
      → IsSettled p.opening.spec (trace_after p.opening.spec c first)
  pub inert : (c : Trace) (first : List Past) (e : Event) → StandsFor p.opening c → StartsWith (front ++ rest) first
      → IsInert p.opening.spec (trace_after p.opening.spec c first) e

-- the same pass, which may have seen and done more
abbrev pub IsLater : PassView → PassView → Type 0
IsLater old new = new ≡ record old { seen = new.seen; mine = new.mine; missed = new.missed; gone = new.gone }
