use Rattle.std.proofs.Common.{arith}
use mathlib.Core.Option.{none}
use Rattle.atomic_table.specs.Table.{step}
use Rattle.kn_cell.proofs.TurnMoves.{confirm_allows}
use Rattle.kn_cell.proofs.steps.confirm.Goals as goal

pub load-requires : goal.load-requires
load-requires c =
    let board = c.args.board.now in
    let place = c.args.place.now in
    (c.requires.same, omega arith, confirm_allows board.key board.table_id.slots place.id place.me (step board.table_id.slots 0 0 0 none) c.requires.fresh)
