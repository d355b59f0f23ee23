use Rattle.std.proofs.Common.{◌≡◌, [], ap, ◌∙◌}
use Rattle.atomic_table.specs.Table.{Me}
use Rattle.kn_cell.specs.declared.view.View.{View}
use Rattle.kn_cell.specs.State.{DeskState}
use Rattle.kn_cell.specs.Rule.{without_turn}
use Rattle.kn_cell.proofs.ShownFacts.{looks_idle}
use Rattle.kn_cell.proofs.cell.RevisionCell.figures.Goals as goal

pub returns-clause-looks : goal.returns-clause-looks
returns-clause-looks g c =
    let place = c.pass.inside.place in
    let m = c.take_turn.new.place.me in
    let is : c.give.new.place.me ≡ (without_turn m.0, []) = c.give.ensures.free ∙ ap (λ (x : Me DeskState View). (without_turn x.0, [])) c.figures_at-figures.ensures.same.2 in
    let looks = looks_idle place.table_id place.me.0 m c.give.new.place.me c.take_turn.ensures.turn is in
    rw (← c.pass.view_is, c.give.ensures.same.0, c.figures_at-figures.ensures.same.0, c.take_turn.ensures.same.0) looks
