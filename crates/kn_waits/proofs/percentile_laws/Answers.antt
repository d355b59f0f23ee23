use Rattle.kn_waits.proofs.Counting.{percentile_least}
use Rattle.kn_waits.proofs.percentile_laws.Goals as goal

pub returns : goal.returns
returns c = percentile_least
