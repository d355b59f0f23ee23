use Rattle.std.proofs.Common.{ap, sym, ◌∙◌, arith}
use Rattle.kn_cell.specs.Shown.{PassView}
use Rattle.kn_cell.proofs.SeatMoves.{joins}
use Rattle.kn_cell.proofs.cell.RevisionCell.join.Goals as goal

pub join_seat-requires : goal.join_seat-requires
join_seat-requires c =
    let i = c.pass.invariant in
    let j = c.other.invariant in
    let p = c.pass.inside.place in
    let q = c.other.inside.place in (
      ap (λ (p : PassView). p.cell) c.pass.view_is ∙ (c.requires.cell ∙ sym c.self.view_is),
      ap (λ (p : PassView). p.cell) c.other.view_is ∙ (c.requires.other ∙ sym c.self.view_is),
      j.empty,
      omega arith,
      joins c.self.inside.table.shared.key p.id p.me.0 q.id q.me.0 i.idle i.fresh j.idle j.fresh,
    )
