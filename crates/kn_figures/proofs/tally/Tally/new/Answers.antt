use Rattle.kn_figures.proofs.Counting.{none_yet}
use Rattle.kn_figures.proofs.tally.Tally.new.Goals as goal

pub returns : goal.returns
returns c = none_yet
