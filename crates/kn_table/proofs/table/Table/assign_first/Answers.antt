use Rattle.kn_table.proofs.Writes.{first_held_at, some_held_at}
use Rattle.kn_table.proofs.table.Table.assign_first.Goals as goal

pub assign_at-requires-clause-held : goal.assign_at-requires-clause-held
assign_at-requires-clause-held c =
    some_held_at c.self.inside.slots.items c.self.inside.cursors.held c.args.self.now c.self.invariant.kept.held c.self.view_is c.requires

pub invariant_of-self : goal.invariant_of-self
invariant_of-self c =
    record { kept = c.assign_at.ensures.kept c.self.inside.live c.self.invariant.kept; linked = c.assign_at.ensures.linked; room = rw c.assign_at.ensures.capacity c.self.invariant.room }

pub returns-clause-moved : goal.returns-clause-moved
returns-clause-moved c = λ r first.
    let held = first_held_at c.self.inside.slots.items c.self.inside.cursors.held r c.args.self.now c.self.invariant.kept.held c.self.view_is first in
    let assigned = c.assign_at.ensures.assigned r held in
    rw (← c.self.view_is) assigned.moved

pub returns-clause-moves : goal.returns-clause-moves
returns-clause-moves c = λ r first.
    let held = first_held_at c.self.inside.slots.items c.self.inside.cursors.held r c.args.self.now c.self.invariant.kept.held c.self.view_is first in
    let assigned = c.assign_at.ensures.assigned r held in
    rw (← c.self.view_is) assigned.moves
