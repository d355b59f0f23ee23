use Rattle.std.proofs.Common.{◌-◌, arith, drop, length, length-drop}
use Rattle.std.proofs.lemmas.List.{take_all}
use Rattle.kn_core.proofs.rows.follow_behind.Goals as goal

pub follow-requires : goal.follow-requires
follow-requires c =
    let log = c.entries.result.now in
    let first = c.args.first in
    rw (take_all (length log - first) (drop first log) (omega (arith, length-drop first log)), c.entries.ensures) c.requires.can

pub returns-clause-all : goal.returns-clause-all
returns-clause-all c =
    let log = c.entries.result.now in
    let first = c.args.first in
    rw (take_all (length log - first) (drop first log) (omega (arith, length-drop first log)), c.entries.ensures) at c.follow.ensures.all
