use Rattle.std.proofs.Common.{arith}
use mathlib.Core.Option.{none}
use Rattle.atomic_table.specs.Table.{step}
use Rattle.kn_cell.proofs.TurnMoves.{record_allows}
use Rattle.kn_cell.proofs.steps.record.Goals as goal

pub fetch_add-requires : goal.fetch_add-requires
fetch_add-requires c =
    let board = c.args.board.now in
    let place = c.args.place.now in
    let a = c.requires.added in (
      c.requires.same,
      omega arith,
      record_allows board.key board.table_id.slots place.id place.me a.value a.before a.row (step board.table_id.slots 0 1 0 none)
          c.requires.turn.0 c.requires.turn.1 c.requires.small a.slot a.last a.own a.bounds a.legal,
    )
