use Rattle.std.proofs.Common.{◌≡◌, ◌+◌, ◌%◌, ◌^◌, arith, suc, subst}
use mathlib.Core.Option.{none}
use Rattle.atomic_table.specs.Table.{step, Allows}
use Rattle.kn_cell.specs.Rule.{IsKept, Rings}
use Rattle.kn_cell.proofs.TurnMoves.{ring_allows}
use Rattle.kn_cell.proofs.steps.ring.Goals as goal

pub fetch_add-requires : goal.fetch_add-requires
fetch_add-requires c =
    let board = c.args.board.now in
    let place = c.args.place.now in
    let here : suc (suc c.args.pass) ≡ c.args.pass + 2 = omega arith in (
      c.requires.same,
      omega arith,
      subst (λ i. Allows (IsKept board.key) board.table_id.slots place.id place.me i (λ n. (n + 1) % 2 ^ 64) (Rings (step board.table_id.slots i 1 0 none) place.me)) here
          (ring_allows board.key board.table_id.slots place.id c.args.pass place.me (step board.table_id.slots (suc (suc c.args.pass)) 1 0 none)),
    )
