use Rattle.std.proofs.Common.{arith}
use mathlib.Core.Option.{none}
use Rattle.atomic_table.specs.Table.{step}
use Rattle.kn_cell.proofs.TurnMoves.{give_allows}
use Rattle.kn_cell.proofs.steps.hand_back.Goals as goal

pub swap-requires : goal.swap-requires
swap-requires c =
    let board = c.args.board.now in
    let place = c.args.place.now in
    let a = c.requires.slot in (
      c.requires.same,
      omega arith,
      give_allows board.key board.table_id.slots place.id place.me a.0 (step board.table_id.slots 1 0 0 none) c.requires.turn.0 c.requires.turn.1 a.1 a.2,
    )
