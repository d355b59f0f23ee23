use Rattle.kn_laws.proofs.Losses.{loses_all, loses_nothing}
use Rattle.kn_laws.proofs.laws.loss_laws.Goals as goal

pub returns : goal.returns
returns c = record { all = loses_all c.fact_laws.ensures; nothing = loses_nothing }
