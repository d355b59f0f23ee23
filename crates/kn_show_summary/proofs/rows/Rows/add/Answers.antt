use Rattle.std.proofs.Common.{◌∙◌, ap, sym, subst}
use Rattle.kn_show_summary.specs.Counted.{with_row}
use Rattle.kn_show_summary.specs.Rows.{AreRowsOf, RowsState}
use Rattle.kn_show_summary.proofs.Counting.{counted-push}
use Rattle.kn_show_summary.proofs.rows.Rows.add.Goals as goal

pub returns-clause-kept : goal.returns-clause-kept
returns-clause-kept c s es t can are =
    let held = subst (λ (x : RowsState). AreRowsOf x s es t) (sym c.self.view_is) are in
    record {
      counted = c.add.ensures.counted.counted ∙ ap (with_row c.args.e.now.row) held.counted ∙ sym (counted-push c.fact_laws.ensures s t c.args.e.now);
      waits = c.count_begun.ensures.waits s es c.args.tag t can held.limit held.lives held.waits;
      limit = c.count_begun.ensures.limit ∙ held.limit;
      lives = c.add-2.ensures s es t can.comes held.lives;
    }
