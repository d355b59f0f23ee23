use Rattle.std.proofs.Common.{ap, ◌∙◌}
use Rattle.atomic_table.specs.Table.{Me}
use Rattle.kn_cell.specs.declared.view.View.{View}
use Rattle.kn_cell.specs.State.{DeskState}
use Rattle.kn_cell.proofs.turn.ring_called.Goals as goal

pub called_at-requires-clause-slot : goal.called_at-requires-clause-slot
called_at-requires-clause-slot c = let s = c.requires.slot in (s.0, ap (λ (m : Me DeskState View). m.1) c.loop.invariant.me ∙ s.1)
