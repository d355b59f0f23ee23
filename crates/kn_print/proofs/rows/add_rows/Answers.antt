-- One line more.
use Rattle.std.proofs.Common.{◌+◌, drop, refl, arith, rules}
use Rattle.std.proofs.lemmas.Grind.{common_steps}
use Rattle.kn_print.specs.Printed.{lines_of}
use Rattle.kn_print.proofs.Pieces.{rows-around, rows-more, small_more}
use Rattle.kn_print.proofs.rows.add_rows.Goals as goal

pub loop-row-init : goal.loop-row-init
loop-row-init g c = record { held = c.adding_laws.ensures.laws.nothing; small = search rules; later = search rules }

pub loop-row-preserved : goal.loop-row-preserved
loop-row-preserved g c =
    let both = c.adding_laws.ensures.laws.more c.loop-row.invariant.held c.in-Ok.ensures.ok refl in
    record { held = grind (arith, common_steps, both, rows-more); small = small_more c.args.rows.now c.loop-row.row-index c.row-item.result (search rules) c.row-item.is c.loop-row.invariant.small c.fits.ensures; later = grind (arith, common_steps) }

pub returns-in-Err-clause-err : goal.returns-in-Err-clause-err
returns-in-Err-clause-err g c =
    let some = c.adding_laws.ensures.laws.some _ _ (lines_of (drop (c.loop-row.row-index + 1) c.args.rows.now)) c.loop-row.invariant.held c.in-Err.ensures.err in
    grind (arith, common_steps, some, rows-around)
