use Rattle.kn_sizes.proofs.Histories.{history_arrivals}
use Rattle.kn_sizes.proofs.sizes.count_laws.Goals as goal

pub returns : goal.returns
returns c = record { arrivals = history_arrivals c.fact_laws.ensures c.part_laws.ensures }
