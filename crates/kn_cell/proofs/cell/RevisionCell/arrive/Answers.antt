use Rattle.std.proofs.Common.{◌≡◌, [], ap, ◌∙◌}
use Rattle.atomic_table.specs.Table.{Me}
use Rattle.kn_event.specs.declared.event.Act.TheVariants as act
use Rattle.kn_cell.specs.declared.view.View.{View}
use Rattle.kn_cell.specs.State.{DeskState}
use Rattle.kn_cell.specs.Rule.{without_turn}
use Rattle.kn_cell.proofs.Entering.{given_back}
use Rattle.kn_cell.proofs.ShownFacts.{looks_idle, looks_recorded}
use Rattle.kn_cell.proofs.cell.RevisionCell.arrive.Goals as goal

pub returns-in-Ok-clause-looks : goal.returns-in-Ok-clause-looks
returns-in-Ok-clause-looks g c =
    let place = c.pass.inside.place in
    let m = c.take_turn.new.place.me in
    let e = c.enter.new.place.me in
    let w = c.ring_left.new.place.me in
    let what = act.Arrive c.args.tag in
    let is : w ≡ (without_turn e.0, []) = c.ring_left.ensures.same.2 ∙ c.give.ensures.free ∙ ap (λ (x : Me DeskState View). (without_turn x.0, [])) c.arrival_at-course.ensures.same.2 in
    let row = given_back m.0 what c.args.time c.enter.new.answer e w c.in-Ok.ensures.ok is in
    let looks = looks_recorded place.table_id place.me.0 what c.args.time c.enter.new.answer m w c.take_turn.ensures.turn row in
    rw (← c.pass.view_is, c.ring_left.ensures.same.0, c.give.ensures.same.0, c.arrival_at-course.ensures.same.0, c.enter.ensures.same.0, c.take_turn.ensures.same.0) looks

pub returns-in-Err-clause-looks : goal.returns-in-Err-clause-looks
returns-in-Err-clause-looks g c =
    let place = c.pass.inside.place in
    let m = c.take_turn.new.place.me in
    let w = c.give-in-Err.new.place.me in
    let is : w ≡ (without_turn m.0, []) = c.give-in-Err.ensures.free ∙ ap (λ (x : Me DeskState View). (without_turn x.0, [])) c.in-Err.ensures.err.0 in
    let looks = looks_idle place.table_id place.me.0 m w c.take_turn.ensures.turn is in
    rw (← c.pass.view_is, c.give-in-Err.ensures.same.0, c.enter.ensures.same.0, c.take_turn.ensures.same.0) looks
