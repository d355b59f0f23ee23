use Rattle.kn_cell.proofs.TurnFacts.{slot_first}
use Rattle.kn_cell.proofs.turn.rows_at.Goals as goal

pub slot_mut-requires : goal.slot_mut-requires
slot_mut-requires c = let s = c.requires.slot in (c.requires.same, (s.0, slot_first c.args.place.now.me.1 s.0 s.1))
