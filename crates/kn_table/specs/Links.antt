-- The chains of slots by pod, through which a pod's requests are found.
use Rattle.std.specs.Prelude.{◌≡◌, ◌==◌, ◌⊎◌, ℕ, Bool, true, false, ◌+◌, ◌%◌, ◌<◌, ◌≤◌, List, length, slice_index, slice_index_or}
use Rattle.kn_record.specs.declared.admission.Place.{Place}
use Rattle.kn_record.specs.declared.admission.Place.TheVariants as place
use Rattle.kn_table.specs.declared.slot.Slot.{Slot}

-- where the first of each chain stands, how many slots reach as far as its last, what comes behind each slot; and whether these hold
pub record Chains : Type 0 where
  pub firsts : List ℕ
  pub ends : List ℕ
  pub nexts : List ℕ
  pub whole : Bool

-- the place is at a pod of this chain
abbrev pub is_chained : ℕ → Place → Bool
is_chained b place.Held = false
is_chained b (place.Queued p) = (p % 1024) == b
is_chained b (place.Running p assigned) = (p % 1024) == b

-- the slot's request is at such a place, or was when it ended
abbrev pub is_in : ℕ → Slot → Bool
is_in b s = is_chained b s.request.place

-- the slot at this place is in the chain
pub record IsIn (b : ℕ) (slots : List Slot) (j : ℕ) : Type 0 where
  pub inside : j < length slots
  pub placed : (d : Slot) → is_in b (slice_index_or slots j d) ≡ true

-- one chain of these slots: its first is no later than any, its end is behind its last, and what comes behind one is no later than any behind it
pub record IsChain (links : Chains) (slots : List Slot) (b : ℕ) : Type 0 where
  pub first : (j : ℕ) → IsIn b slots j → slice_index links.firsts b ≤ j
  pub last : (k : ℕ) → slice_index links.ends b ≡ k + 1 → IsIn b slots k
  pub end : (j : ℕ) → IsIn b slots j → j < slice_index links.ends b
  pub next : (i j : ℕ) → IsIn b slots i → IsIn b slots j → i < j → slice_index links.nexts i ≤ j

-- each, where they are whole
pub record AreLinked (links : Chains) (slots : List Slot) : Type 0 where
  pub chain : links.whole ≡ true → (b : ℕ) → b < 1024 → IsChain links slots b

-- one more slot is in a chain, the one at this place
pub record Puts (b place : ℕ) (old new : List Slot) : Type 0 where
  pub there : IsIn b new place
  pub kept : (c j : ℕ) → IsIn c old j → IsIn c new j
  pub only : (c j : ℕ) → IsIn c new j → IsIn c old j ⊎ ((c ≡ b) × (j ≡ place))

-- the slot at this place comes to the others, of a request at such a place
pub record Comes (place : Place) (at : ℕ) (old new : List Slot) : Type 0 where
  pub there : (c : ℕ) → is_chained c place ≡ true → IsIn c new at
  pub kept : (c j : ℕ) → IsIn c old j → IsIn c new j
  pub only : (c j : ℕ) → IsIn c new j → IsIn c old j ⊎ ((is_chained c place ≡ true) × (j ≡ at))

-- the same slots are in each
pub record AreSame (old new : List Slot) : Type 0 where
  pub kept : (c j : ℕ) → IsIn c old j → IsIn c new j
  pub only : (c j : ℕ) → IsIn c new j → IsIn c old j
