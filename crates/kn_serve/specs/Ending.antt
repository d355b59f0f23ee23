-- How a session ends by its slots, and what is left of a slot.
use Rattle.std.specs.Prelude.{◌≡◌, ◌<◌, ℕ, Bool, true, false, List, length, map, slice_index_or, Option, None, Some}
use Rattle.std.specs.List.{list_any, position}
use Rattle.kn_journal.specs.declared.status.Status.{Status}
use Rattle.kn_journal.specs.declared.status.Status.TheVariants as status
use Rattle.kn_request.specs.declared.slot.Slot.{Slot}
use Rattle.kn_serve.specs.Opening.{IsEmptyWork}

-- its work is empty, and all else is as it was
pub record IsCleared {C L : Type 0} (s t : Slot C L) : Type 0 where
  pub caller : t.caller ≡ s.caller
  pub link : t.link ≡ s.link
  pub empty : IsEmptyWork t.work

-- so is each of the slots
abbrev pub AreCleared : {C L : Type 0} → List (Slot C L) → List (Slot C L) → Type 0
AreCleared {C} {L} ss ts = (length ts ≡ length ss) × ((i : ℕ) (d : Slot C L) → i < length ss → IsCleared (slice_index_or ss i d) (slice_index_or ts i d))

-- the least slot with a fault comes first, then want of memory in a slot
abbrev pub status_by : Option ℕ → Bool → Status
status_by (Some slot) want = status.SlotFault slot
status_by None true = status.Memory
status_by None false = status.Ok

-- .. by the works of slots
abbrev pub status_of_slots : {C L : Type 0} → List (Slot C L) → Status
status_of_slots {C} {L} slots = status_by (position (λ b. b) (map (λ (s : Slot C L). s.work.fault) slots)) (list_any (λ b. b) (map (λ (s : Slot C L). s.work.memory) slots))
