use Rattle.std.specs.Prelude.{All}
use Rattle.kn_tests_cell.specs.Fresh.{IsFreshSlot}
use Rattle.kn_tests_cell.proofs.slots.slots_of.Given as goal

abbrev pub invariant-loop-word : goal.invariant-loop-word
invariant-loop-word l = All IsFreshSlot l.slots.items
