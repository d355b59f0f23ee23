use Rattle.kn_cell.proofs.Counting.{never_fall}
use Rattle.kn_cell.proofs.laws.growth_laws.Goals as goal

pub returns : goal.returns
returns c = never_fall c.figure_laws.ensures.counts
