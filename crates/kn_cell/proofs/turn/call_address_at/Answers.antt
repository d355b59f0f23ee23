use Rattle.kn_cell.proofs.TurnFacts.{slot_first}
use Rattle.kn_cell.proofs.turn.call_address_at.Goals as goal

pub slot_mut-requires : goal.slot_mut-requires
slot_mut-requires c = let t = c.requires.turn in (c.requires.same, (t.value, slot_first c.args.place.now.me.1 t.value t.slot))
