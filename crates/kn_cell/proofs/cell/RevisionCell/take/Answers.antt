use Rattle.std.proofs.Common.{◌≡◌, ◌+◌, [], length, ap, ◌∙◌, arith}
use Rattle.kn_cell.specs.declared.view.View.{View}
use Rattle.kn_cell.specs.Desk.{emptied}
use Rattle.kn_cell.specs.Rule.{gives_back}
use Rattle.kn_cell.specs.Shown.{PassView}
use Rattle.kn_cell.proofs.TakeFacts.{taken_back, looks_taken}
use Rattle.kn_cell.proofs.cell.RevisionCell.take.Goals as goal

pub rows_at-requires-clause-slot : goal.rows_at-requires-clause-slot
rows_at-requires-clause-slot g c =
    let got = c.take_turn.ensures.turn in
    let room = got.has.goes.room in
    let key = ap (λ (v : View). v.key.room) got.view_is in
    let shown = ap (λ (p : PassView). p.room) c.pass.view_is in
    let wide = c.requires.room in
    (got.has.value, got.has.slot, omega arith)

pub hand_back-requires-clause-slot : goal.hand_back-requires-clause-slot
hand_back-requires-clause-slot g c =
    let v = c.pass.inside.place.me.0 in
    let writes = ap (λ (p : PassView). p.scribe) c.pass.view_is ∙ c.requires.scribe in
    let after = c.rows_at.new.place.me in
    taken_back v after.0 c.take_turn.new.place.me after.1 c.take_turn.ensures.turn writes c.rows_at.ensures.same.2 c.rows_at.ensures.slot

pub returns-clause-looks : goal.returns-clause-looks
returns-clause-looks g c =
    let place = c.pass.inside.place in
    let v = place.me.0 in
    let m = c.take_turn.new.place.me in
    let got = c.take_turn.ensures.turn in
    let x = got.has.value in
    let slot = got.has.slot in
    let writes = ap (λ (p : PassView). p.scribe) c.pass.view_is ∙ c.requires.scribe in
    let left = c.rows_at.ensures.slot x slot in
    let is : c.hand_back.new.place.me ≡ (gives_back m.0 (x.taken + length x.history), []) =
    c.hand_back.ensures.free (emptied x) left ∙ ap (λ (u : View). (gives_back u (x.taken + length x.history), [])) c.rows_at.ensures.same.2 in
    let looks = looks_taken place.table_id v m c.hand_back.new.place.me x got got.has.goes got.has.gone writes is in
    rw (← c.pass.view_is, c.hand_back.ensures.same.0, c.rows_at.ensures.same.0, c.take_turn.ensures.same.0, c.rows_at.ensures.rows x slot) looks
