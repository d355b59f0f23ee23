-- What a call asks of a seat, what it leaves of it, and what it does to the desk in its slot.
use Rattle.std.specs.Prelude.{◌≡◌, ℕ, [], ◌∷◌, false, IfErr, IfOk, Result}
use Rattle.atomic_table.specs.Table.{Me}
use Rattle.atomic_table.specs.declared.shared.Seat.{Seat}
use Rattle.kn_event.specs.declared.event.Act.{Act}
use Rattle.kn_event.specs.declared.event.Told.{Told}
use Rattle.kn_cell.specs.declared.past.Full.{Full}
use Rattle.kn_cell.specs.declared.view.View.{View}
use Rattle.kn_cell.specs.State.{DeskState}
use Rattle.kn_cell.specs.Desk.{Applies, IsTooSmall}
use Rattle.kn_cell.specs.Rule.{without_turn}

-- the seat is as it was: at its table, under its number, with its view and its slots
abbrev pub KeepsSeat : Seat DeskState View → Seat DeskState View → Type 0
KeepsSeat old new = (new.table_id ≡ old.table_id) × (new.id ≡ old.id) × (new.me ≡ old.me)

-- .. but for its slots
abbrev pub KeepsView : Seat DeskState View → Seat DeskState View → Type 0
KeepsView old new = (new.table_id ≡ old.table_id) × (new.id ≡ old.id) × (new.me.0 ≡ old.me.0)

-- the seat may ask for the turn: it hasn't the turn, it was not joined to another, and it has no slot
abbrev pub MayTakeTurn : Me DeskState View → Type 0
MayTakeTurn m = (m.0.turn ≡ false) × (m.0.spent ≡ false) × (m.1 ≡ [])

-- the turn was given back, and the slot with it
abbrev pub GivesTurn : Me DeskState View → Me DeskState View → Type 0
GivesTurn m w = w ≡ (without_turn m.0, [])

-- of the desk in its slot: it took the event in there
abbrev pub AppliesInSlot : {T E : Type 0} → Me DeskState View → Me DeskState View → ℕ → Act → ℕ → Told → Result T E → Type 0
AppliesInSlot m w number act time told r =
    (x : DeskState) → m.1 ≡ (0, x) ∷ [] → IfOk r (λ _. (y : DeskState) × (w.1 ≡ (0, y) ∷ []) × Applies x number act time told y)

-- .. or the room is too small for it, and the slot is as it was
abbrev pub OverflowsSlot : {T : Type 0} → Me DeskState View → Me DeskState View → Act → Result T Full → Type 0
OverflowsSlot m w act r = (x : DeskState) → m.1 ≡ (0, x) ∷ [] → IfErr r (λ full. (w.1 ≡ m.1) × IsTooSmall x act full)
