-- The slots behind the lives: each request that came since the last sweep, those that ended with a mark.
use Rattle.std.specs.Prelude.{◌≡◌, ℕ, Bool, false, not, ◌<◌, List, map, length, slice_index_or}
use Rattle.std.specs.List.{AllPairs, filter}
use Rattle.kn_lives.specs.declared.lives.Life.{Life}
use Rattle.kn_lives.specs.declared.slots.Slot.{Slot}

abbrev pub is_live : Slot → Bool
is_live s = not s.has_ended

-- the pairs of those that haven't ended, in order
abbrev pub live_of : List Slot → List (ℕ × Life)
live_of slots = map (λ (s : Slot). (s.number, s.life)) (filter is_live slots)

-- each number is below all later ones, among those that ended too
abbrev pub AreAscending : List Slot → Type 0
AreAscending slots = AllPairs (λ (x y : Slot). x.number < y.number) slots

-- the slot of this number stands at this place
pub record IsSlotOf (r : ℕ) (slots : List Slot) (place : ℕ) : Type 0 where
  pub inside : place < length slots
  pub number : (d : Slot) → (slice_index_or slots place d).number ≡ r

-- the live request of this number stands at this place
pub record IsPlaceOf (r : ℕ) (slots : List Slot) (place : ℕ) : Type 0 where
  pub inside : place < length slots
  pub number : (d : Slot) → (slice_index_or slots place d).number ≡ r
  pub live : (d : Slot) → (slice_index_or slots place d).has_ended ≡ false
