use Rattle.kn_table.proofs.table.Table.assign.Goals as goal
use Rattle.kn_record.specs.Admission.{is_held_place}
use Rattle.kn_table.proofs.Writes.{few_live, place_found}

pub unwrap-place-requires : goal.unwrap-place-requires
unwrap-place-requires c =
    let kept = c.self.invariant.kept in
    place_found is_held_place c.args.r c.self.inside.slots.items c.deref.result.now c.args.self.now _ kept.order (few_live _ _ _ kept) c.self.view_is c.deref.ensures.value c.requires c.place_of.ensures

pub invariant_of-self : goal.invariant_of-self
invariant_of-self c =
    let kept = c.self.invariant.kept in
    record { kept = c.assign_at.ensures.kept c.self.inside.live kept; linked = c.assign_at.ensures.linked; room = rw c.assign_at.ensures.capacity c.self.invariant.room }
