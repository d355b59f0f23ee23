use Rattle.std.proofs.Common.{ap, arith}
use Rattle.kn_show_series.specs.Counting.{size_of}
use Rattle.kn_show_series.specs.Steps.{counts_of}
use Rattle.kn_show_series.proofs.series.SeriesFormFormSeries.make.Goals as goal

pub returns-clause-few : goal.returns-clause-few
unfolding counts_of
returns-clause-few c = omega (arith, ap size_of c.first.ensures.counts)
