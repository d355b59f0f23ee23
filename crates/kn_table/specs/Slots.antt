-- The slots behind a table's view: each request that came since the last sweep, those that ended with a mark.
use Rattle.std.specs.Prelude.{◌≡◌, ◌≢◌, ◌==◌, ℕ, Bool, true, false, not, ◌+◌, ◌<◌, ◌≤◌, ◌&&◌, List, map, length, slice_index_or, if◌then◌else◌}
use Rattle.std.specs.List.{All, AllPairs, filter, position_or_len}
use Rattle.kn_event.specs.Lists.{contains}
use Rattle.kn_trace.specs.Events.{live_most}
use Rattle.kn_record.specs.declared.admission.Place.{Place}
use Rattle.kn_record.specs.declared.admission.Request.{Request}
use Rattle.kn_record.specs.Admission.{is_at, is_held_place, placed_in, waits}
use Rattle.kn_table.specs.declared.cursors.Cursors.{Cursors}
use Rattle.kn_table.specs.declared.slot.PlaceKind.{PlaceKind}
use Rattle.kn_table.specs.declared.slot.PlaceKind.TheVariants as kind
use Rattle.kn_table.specs.declared.slot.Slot.{Slot}

abbrev pub is_live : Slot → Bool
is_live s = not s.has_ended

-- the requests that haven't ended, in order
abbrev pub live_of : List Slot → List Request
live_of slots = map (λ (s : Slot). s.request) (filter is_live slots)

-- the slot's request is live, and its place passes the test
abbrev pub is_placed : (Place → Bool) → Slot → Bool
is_placed test s = is_live s && test s.request.place

-- the first slot whose request is live at a place that passes; how many slots there are, where there is none
abbrev pub first_placed : (Place → Bool) → List Slot → ℕ
first_placed test slots = position_or_len (is_placed test) slots

-- where the first of a kind stands once one more slot does, which is of the kind or not
abbrev pub passed : Bool → ℕ → ℕ → ℕ
passed of_kind end first = if (first == end) && not of_kind then end + 1 else first

-- a cursor stands at the first of its kind, but where it stands at this place, whose slot is no longer of the kind
pub record IsLeftAt (place first cursor : ℕ) : Type 0 where
  pub here : cursor ≡ place → place + 1 ≤ first
  pub elsewhere : cursor ≢ place → cursor ≡ first

-- the places of a kind
abbrev pub is_of_kind : PlaceKind → Place → Bool
is_of_kind kind.Held = is_held_place
is_of_kind kind.Waiting = waits
is_of_kind (kind.At p) = is_at p

-- numbers ascend and times never fall, among those that ended too
pub record AreInOrder (slots : List Slot) : Type 0 where
  pub numbers : AllPairs (λ (x y : Slot). x.request.number < y.request.number) slots
  pub times : AllPairs (λ (x y : Slot). x.request.time ≤ y.request.time) slots

-- the slot of this number stands at this place
pub record IsSlotOf (r : ℕ) (slots : List Slot) (place : ℕ) : Type 0 where
  pub inside : place < length slots
  pub number : (d : Slot) → (slice_index_or slots place d).request.number ≡ r

-- a slot of this number stands nowhere but among so many from a place on
pub record IsWithin (r : ℕ) (slots : List Slot) (from len : ℕ) : Type 0 where
  pub some : 0 < len
  pub inside : from + len ≤ length slots
  pub only : (place : ℕ) → IsSlotOf r slots place → (from ≤ place) × (place < from + len)

-- the live request of this number stands at this place
pub record IsPlaceOf (r : ℕ) (slots : List Slot) (place : ℕ) : Type 0 where
  pub inside : place < length slots
  pub number : (d : Slot) → (slice_index_or slots place d).request.number ≡ r
  pub live : (d : Slot) → (slice_index_or slots place d).has_ended ≡ false

-- the live request of this number stands at this place, and is held
pub record IsHeldAt (r : ℕ) (slots : List Slot) (place : ℕ) : Type 0 where
  pub there : IsPlaceOf r slots place
  pub held : contains r (placed_in is_held_place (live_of slots)) ≡ true

-- the request may come next: it is after all slots, and one is left of those that there is room for
pub record IsNext (request : Request) (slots : List Slot) : Type 0 where
  pub order : AreInOrder slots
  pub above : All (λ (s : Slot). s.request.number < request.number) slots
  pub later : All (λ (s : Slot). s.request.time ≤ request.time) slots
  pub room : length slots < 40000

-- where the first that is held and the first that waits stand, and a place before which no live request is at one pod
pub record AreFirst (cursors : Cursors) (slots : List Slot) : Type 0 where
  pub held : cursors.held ≡ first_placed is_held_place slots
  pub waiting : cursors.waiting ≡ first_placed waits slots
  pub at_pod : cursors.from ≤ first_placed (is_at cursors.pod) slots

-- what is kept beside the slots: how many are live, and the cursors
pub record AreKept (slots : List Slot) (live : ℕ) (cursors : Cursors) : Type 0 where
  pub order : AreInOrder slots
  pub short : length slots ≤ 40000
  pub counted : live ≡ length (live_of slots)
  pub few : live ≤ live_most
  pub held : cursors.held ≡ first_placed is_held_place slots
  pub waiting : cursors.waiting ≡ first_placed waits slots
  pub at_pod : cursors.from ≤ first_placed (is_at cursors.pod) slots
