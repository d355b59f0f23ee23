use Rattle.std.proofs.Common.{◌≤◌}
use Rattle.kn_table.specs.Slots.{first_placed, is_of_kind}
use Rattle.kn_table.proofs.cursors.next_placed.Given as goal

abbrev pub invariant-loop-place : goal.invariant-loop-place
invariant-loop-place l = l.place ≤ first_placed (is_of_kind l.kind) l.slots
