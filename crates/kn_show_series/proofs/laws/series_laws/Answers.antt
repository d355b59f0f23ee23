use Rattle.kn_show_series.proofs.Lines.{has_lines}
use Rattle.kn_show_series.proofs.SumUp.{sum_up}
use Rattle.kn_show_series.proofs.laws.series_laws.Goals as goal

pub returns : goal.returns
returns c = record {
  lines = λ step r pos order. has_lines c.trace_laws.ensures.append c.part_laws.ensures.rows.react-at step pos r.spec r.start r.events order;
  sums = λ step r pos order. sum_up c.trace_laws.ensures.append c.part_laws.ensures.rows.react-at c.row_laws.ensures.append c.history_laws.ensures.times step pos r order;
}
