use Rattle.std.proofs.Common.{◌<◌, ap, sym, ◌∙◌, arith}
use Rattle.kn_cell.specs.Shown.{PassView}
use Rattle.kn_cell.proofs.SeatMoves.{splits}
use Rattle.kn_cell.proofs.cell.RevisionCell.split.Goals as goal

pub split_seat-place-requires : goal.split_seat-place-requires
split_seat-place-requires c =
    let i = c.pass.invariant in
    let v = c.pass.inside.place.me.0 in
    let free : 0 < v.free = let f = ap (λ (p : PassView). p.free) c.pass.view_is in let r = c.requires.free in omega arith in (
      ap (λ (p : PassView). p.cell) c.pass.view_is ∙ (c.requires.cell ∙ sym c.self.view_is),
      omega arith,
      splits c.self.inside.table.shared.key c.pass.inside.place.id v i.idle i.fresh free,
    )
