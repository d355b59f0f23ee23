use Rattle.kn_show_summary.specs.Text.{percentiles_text}
use Rattle.kn_show_summary.proofs.Pieces.{four_pieces}
use Rattle.kn_show_summary.proofs.summary.put_percentiles.Goals as goal

pub returns-clause-value : goal.returns-clause-value
unfolding percentiles_text
returns-clause-value c ws are =
    four_pieces c.args.line.now _ _ _ _ _ _ _ c.put_known-4.new.line
    (rw (c.percentile.ensures ws are) at c.put_known.ensures.value) (rw (c.percentile-2.ensures ws are) at c.put_known-2.ensures.value)
    (rw (c.percentile-3.ensures ws are) at c.put_known-3.ensures.value) (rw (c.percentile-4.ensures ws are) at c.put_known-4.ensures.value)
