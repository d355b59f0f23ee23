use Rattle.std.proofs.Common.{◌+◌, drop, arith, refl}
use Rattle.std.proofs.lemmas.Grind.{common_steps}
use Rattle.kn_report.specs.Waiting.{own_rows}
use Rattle.kn_report.proofs.Pieces.{own_rows_around, own_rows_more}
use Rattle.kn_report.proofs.Waits.{adds_more, adds_nothing, adds_some}
use Rattle.kn_report.proofs.own.add_own_rows.Goals as goal

pub loop-e-init : goal.loop-e-init
unfolding own_rows
loop-e-init g c = record { held = adds_nothing; later = omega arith }

pub loop-e-preserved : goal.loop-e-preserved
loop-e-preserved g c =
    let both = adds_more c.loop-e.invariant.held c.in-Ok.ensures.ok refl in
    record {
      held = grind (arith, common_steps, both, own_rows_more);
      later = grind (arith, common_steps);
    }

pub returns-in-Err-clause-err : goal.returns-in-Err-clause-err
returns-in-Err-clause-err g c =
    let some = adds_some _ _ (own_rows c.args.i (drop (c.loop-e.e-index + 1) c.entries-e-items.result.now)) c.loop-e.invariant.held c.in-Err.ensures.err in
    grind (arith, common_steps, some, own_rows_around c.args.i c.entries-e-items.result.now c.loop-e.e-index c.e-item.result)

pub returns-in-Err-clause-cause : goal.returns-in-Err-clause-cause
returns-in-Err-clause-cause g c = grind (arith, common_steps)
