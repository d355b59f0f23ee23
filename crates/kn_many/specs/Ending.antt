-- What is left of a slot over several revisions, and what its works say.
use Rattle.std.specs.Prelude.{◌≡◌, ◌<◌, ℕ, Bool, List, All, length, slice_index_or}
use Rattle.std.specs.List.{list_any}
use Rattle.kn_request.specs.declared.slot.WideSlot.{WideSlot}
use Rattle.kn_serve.specs.Opening.{IsEmptyWork}

-- its works are empty, and all else is as it was
pub record IsAllCleared {C L : Type 0} (s t : WideSlot C L) : Type 0 where
  pub caller : t.caller ≡ s.caller
  pub links : t.links ≡ s.links
  pub many : length t.works.items ≡ length s.works.items
  pub empty : All IsEmptyWork t.works.items

-- so is each of the slots
abbrev pub AreAllCleared : {C L : Type 0} → List (WideSlot C L) → List (WideSlot C L) → Type 0
AreAllCleared {C} {L} ss ts = (length ts ≡ length ss) × ((i : ℕ) (d : WideSlot C L) → i < length ss → IsAllCleared (slice_index_or ss i d) (slice_index_or ts i d))

-- a round of the slot ended in a fault, of whichever revision; one did in want of memory
abbrev pub has_fault : {C L : Type 0} → WideSlot C L → Bool
has_fault {C} {L} s = list_any (λ w. w.fault) s.works.items

abbrev pub has_want : {C L : Type 0} → WideSlot C L → Bool
has_want {C} {L} s = list_any (λ w. w.memory) s.works.items
