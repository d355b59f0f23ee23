use Rattle.std.proofs.Common.{◌-◌, arith, drop, length, length-drop}
use Rattle.std.proofs.lemmas.List.{take_all}
use Rattle.kn_core.proofs.scaling.rows_behind.Goals as goal

pub rows-requires : goal.rows-requires
rows-requires c =
    let log = c.entries.result.now in
    let first = c.args.first in
    rw (take_all (length log - first) (drop first log) (omega (arith, length-drop first log)), c.entries.ensures) c.requires.next

pub returns-clause-stands : goal.returns-clause-stands
returns-clause-stands c =
    let log = c.entries.result.now in
    let first = c.args.first in
    rw (take_all (length log - first) (drop first log) (omega (arith, length-drop first log)), c.entries.ensures) at c.rows.ensures.stands
