use Rattle.std.proofs.Common.{◌∙◌, ap, subst, sym}
use Rattle.kn_table.specs.Slots.{IsNext, live_of}
use Rattle.kn_table.proofs.Marks.{live_of-swept}
use Rattle.kn_table.proofs.Writes.{next_swept}
use Rattle.kn_table.proofs.table.make_room.Goals as goal

pub returns-clause-live : goal.returns-clause-live
returns-clause-live c = ap live_of c.sweep_out.ensures.items ∙ live_of-swept c.args.slots.now.items

pub returns-clause-next : goal.returns-clause-next
returns-clause-next c =
    subst (IsNext c.args.request.now) (sym c.sweep_out.ensures.items) (next_swept c.args.request.now c.args.slots.now.items c.requires.order c.requires.few c.requires.above c.requires.later)
