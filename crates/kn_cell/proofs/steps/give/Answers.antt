use Rattle.std.proofs.Common.{[], ap, ◌∙◌}
use Rattle.kn_cell.specs.declared.view.View.{View}
use Rattle.kn_cell.proofs.TakenMoves.{goes_back, gives_same}
use Rattle.kn_cell.proofs.steps.give.Goals as goal

pub hand_back-requires-clause-slot : goal.hand_back-requires-clause-slot
hand_back-requires-clause-slot c =
    let t = c.requires.turn in
    (t.value, t.slot, goes_back c.args.place.now.me.0 t.value t.goes t.gone)

pub returns-clause-free : goal.returns-clause-free
returns-clause-free c =
    let t = c.requires.turn in
    c.hand_back.ensures.free t.value t.slot ∙ ap (λ (u : View). (u, [])) (gives_same c.args.place.now.me.0 t.value.taken t.gone)
