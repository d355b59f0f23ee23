-- Slots of which nothing is told, and whose works are empty, are new.
use Rattle.std.specs.Prelude.{◌≡◌, All, ℕ, List, None, length, map, slice_index_or}
use Rattle.std.proofs.lemmas.List.Elements.{All-map}
use Rattle.kn_request.specs.declared.slot.Slot.{Slot}
use Rattle.kn_request.specs.declared.slot.WideSlot.{WideSlot}
use Rattle.kn_many.specs.Many.{IsReadyFor}
use Rattle.kn_serve.specs.Opening.{IsEmptyWork, IsFresh, IsUnused}
use Rattle.kn_many.specs.WideOpening.{IsFreshWide}

pub untold : IsUnused None
untold l is = cc

pub all_fresh : {C L : Type 0} (ss : List (Slot C L)) → All (λ (s : Slot C L). IsEmptyWork s.work) ss → All (λ (s : Slot C L). IsFresh None None s.work) ss
all_fresh ss works k d low = record { silent = λ a is. cc; link_unused = λ l is. cc; empty = works k d low }

-- the same of slots over several revisions, which have what such a slot needs
pub all_fresh_wide : {C L : Type 0} (count : ℕ) (ss : List (WideSlot C L)) → All (IsReadyFor count) ss → All (λ (s : WideSlot C L). IsFreshWide None (map (λ (l : L). None) s.links.items) s.works.items) ss
all_fresh_wide {C} {L} count ss ready k d low =
    record { silent = λ a is. cc; unused = All-map IsUnused (λ (l : L). None) (slice_index_or ss k d).links.items (λ k d low. untold); empty = (ready k d low).empty }

pub all_of_each : {C L : Type 0} (count : ℕ) (ss : List (WideSlot C L)) → All (IsReadyFor count) ss → All (λ (s : WideSlot C L). (length s.links.items ≡ count) × (length s.works.items ≡ count)) ss
all_of_each count ss ready k d low = ((ready k d low).links, (ready k d low).works)
