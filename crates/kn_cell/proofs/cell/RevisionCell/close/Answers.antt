use Rattle.std.proofs.Common.{◌≡◌, ◌+◌, ap, arith}
use Rattle.std.specs.Slots.{slots_items}
use Rattle.kn_cell.specs.Shown.{PassView}
use Rattle.kn_cell.proofs.Closings.{ends}
use Rattle.kn_cell.proofs.cell.RevisionCell.close.Goals as goal

pub returns : goal.returns
returns c =
    let i = c.pass.invariant in
    let p = c.pass.inside.place in
    let v = p.me.0 in
    let closed = c.close_with-closed.result in
    let laws = c.history_laws.ensures in
    let all : 1 + v.free + v.back ≡ v.key.passes =
    let r = c.requires.all in
    let a = ap (λ (p : PassView). p.free) c.pass.view_is in
    let b = ap (λ (p : PassView). p.back) c.pass.view_is in
    let d = ap (λ (p : PassView). p.passes) c.pass.view_is in
    omega arith in
    let closes = ends laws.lawful laws.settled laws.inert laws.step p.table_id c.self.inside.table.shared.key p.id v (slots_items closed.words) (slots_items closed.slots)
    c.take-desk.result i.fresh i.idle all c.close_with-closed.ensures.values.2 c.take-desk.ensures.value in
    rw (← c.pass.view_is, c.into_parts.ensures.revision, c.into_parts.ensures.history) record { closes = closes }
