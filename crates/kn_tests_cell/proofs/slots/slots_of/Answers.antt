use Rattle.std.proofs.Common.{◌≡◌, ◌++◌, [], ◌∷◌, rules}
use Rattle.std.proofs.lemmas.List.Elements.{All-push}
use Rattle.kn_tests_cell.specs.Fresh.{IsFreshSlot}
use Rattle.kn_tests_cell.proofs.slots.slots_of.Goals as goal

pub loop-word-preserved : goal.loop-word-preserved
loop-word-preserved c =
    let items : c.push.new.self.items ≡ c.loop-word.slots.items ++ c.in_ok-slot.slot ∷ [] = search rules in
    rw items (All-push IsFreshSlot c.loop-word.slots.items c.in_ok-slot.slot c.loop-word.invariant c.in_ok-slot.ensures)
