use Rattle.std.proofs.Common.{◌+◌, drop, arith, append-nil, refl, sym, ap, ◌∙◌}
use Rattle.std.proofs.lemmas.Grind.{common_steps}
use Rattle.kn_report.proofs.Pieces.{rows_more, rows_around}
use Rattle.kn_report.proofs.Tallies.{totals_more}
use Rattle.kn_report.proofs.Waits.{adds_more, adds_nothing, adds_some}
use Rattle.kn_trace.specs.Report.{rows_text, totals}
use Rattle.kn_report.proofs.waiting.add_rows.Goals as goal

pub loop-e-init : goal.loop-e-init
unfolding rows_text
loop-e-init g c = record { held = adds_nothing; later = grind arith; rows = omega arith; totals = λ t h. h ∙ ap totals (sym (append-nil t)) }

pub loop-e-preserved : goal.loop-e-preserved
loop-e-preserved g c =
    let both = adds_more c.loop-e.invariant.held c.in-Ok.ensures.ok refl in
    record {
      held = grind (arith, common_steps, both, rows_more);
      later = grind (arith, common_steps);
      rows = omega (arith, c.add_row.ensures.counted.rows, c.loop-e.invariant.rows);
      totals = λ t h. grind (arith, common_steps, c.add_row.ensures.counted.totals, c.loop-e.invariant.totals t h, totals_more t c.entries-e-items.result.now c.loop-e.e-index c.e-item.result);
    }

pub returns-in-Err-clause-err : goal.returns-in-Err-clause-err
returns-in-Err-clause-err g c =
    let some = adds_some _ _ (rows_text (drop (c.loop-e.e-index + 1) c.entries-e-items.result.now)) c.loop-e.invariant.held c.in-Err.ensures.err in
    grind (arith, common_steps, some, rows_around c.entries-e-items.result.now c.loop-e.e-index c.e-item.result)
