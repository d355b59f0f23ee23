use Rattle.kn_cell.proofs.TurnFacts.{slot_first, applied_if}
use Rattle.kn_cell.proofs.turn.apply_at.Goals as goal

pub slot_mut-requires : goal.slot_mut-requires
slot_mut-requires c = let s = c.requires.slot in (c.requires.same, (s.0, slot_first c.args.place.now.me.1 s.0 s.1))

pub returns-clause-ok : goal.returns-clause-ok
returns-clause-ok c x slot =
    applied_if c.args.place.now.me.1 c.slot_mut.result.now x c.apply.new.self c.args.number c.args.act c.args.time c.apply.new.answer c.apply.result c.slot_mut.ensures.value slot c.apply.ensures.ok
