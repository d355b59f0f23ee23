-- The marks of slots.
use Rattle.std.proofs.Common.{◌≡◌, Bool, List, map, sym, ◌∙◌, arith, false}
use Rattle.std.specs.Prelude.{All}
use Rattle.std.proofs.lemmas.List.{get_or-map, length-map}
use Rattle.kn_event.specs.Lists.{EachIs}
use Rattle.kn_request.specs.declared.slot.Slot.{Slot}
use Rattle.kn_session.specs.Passes.{IsUnmarked}

-- where no slot has a mark, no work has one
pub all_unmarked : {C L : Type 0} (ts : List (Slot C L)) → All (λ b. b ≡ false) (map (λ (t : Slot C L). t.work.fault) ts) → All (λ b. b ≡ false) (map (λ (t : Slot C L). t.work.memory) ts)
    → EachIs (λ (t : Slot C L). IsUnmarked t.work) ts
all_unmarked {C} {L} ts faults wants i d low =
    let fault : Slot C L → Bool = λ t. t.work.fault in
    let memory : Slot C L → Bool = λ t. t.work.memory in (
      sym (get_or-map fault ts i d false low) ∙ faults i false (omega (arith, low, length-map ts fault)),
      sym (get_or-map memory ts i d false low) ∙ wants i false (omega (arith, low, length-map ts memory)),
    )
