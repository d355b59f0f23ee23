use Rattle.std.proofs.Common.{◌≤◌, ◌-◌, length}
use Rattle.kn_record.specs.Admission.{is_at}
use Rattle.kn_table.specs.Slots.{first_placed}
use Rattle.kn_table.proofs.links.Links.next_at.Given as goal

abbrev pub invariant-loop-place : goal.invariant-loop-place
invariant-loop-place l = l.place ≤ first_placed (is_at l.p) l.slots

abbrev pub decreases-loop-place : goal.decreases-loop-place
decreases-loop-place l = length l.slots - l.place
