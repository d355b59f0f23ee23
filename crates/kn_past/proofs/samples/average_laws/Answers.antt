use Rattle.kn_past.proofs.Averages.{average_small}
use Rattle.kn_past.proofs.Below.{average_below}
use Rattle.kn_past.proofs.samples.average_laws.Goals as goal

pub returns : goal.returns
returns c = record { below = average_below; small = average_small }
