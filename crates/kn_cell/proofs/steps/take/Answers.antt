use Rattle.std.proofs.Common.{arith}
use mathlib.Core.Option.{none}
use Rattle.atomic_table.specs.Table.{step}
use Rattle.kn_cell.proofs.TurnMoves.{take_allows}
use Rattle.kn_cell.proofs.steps.take.Goals as goal

pub swap-requires : goal.swap-requires
swap-requires c =
    let board = c.args.board.now in
    let place = c.args.place.now in
    let free = c.requires.free in (
      c.requires.same,
      omega arith,
      take_allows board.key board.table_id.slots place.id place.me (step board.table_id.slots 1 c.args.mark 0 none) (λ _. c.args.mark) (λ _. c.requires.mark) free.0 free.1 free.2,
    )
