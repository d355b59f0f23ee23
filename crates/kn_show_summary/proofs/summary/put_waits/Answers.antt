use Rattle.std.proofs.Common.{[]}
use Rattle.kn_show_summary.specs.Text.{waits_text}
use Rattle.kn_show_summary.proofs.Pieces.{four_pieces}
use Rattle.kn_show_summary.proofs.summary.put_waits.Goals as goal

pub returns : goal.returns
unfolding waits_text
returns c ws are =
    four_pieces [] _ _ _ _ c.put_figure.new.line c.put_percentiles.new.line c.put_known.new.line c.put_figure-2.new.line
    (rw (c.clear.ensures, c.from.ensures, c.ran.ensures, are.ran) at c.put_figure.ensures.value)
    (c.put_percentiles.ensures.value ws are)
    (rw (c.longest.ensures ws are) at c.put_known.ensures.value)
    (rw (c.sum.ensures, are.sum) at c.put_figure-2.ensures.value)
