use Rattle.kn_sizes.proofs.Growth.{grows-by}
use Rattle.kn_sizes.proofs.sizes.growth_laws.Goals as goal

pub returns : goal.returns
returns c = record { live = grows-by c.fact_laws.ensures c.part_laws.ensures }
