use Rattle.kn_past.proofs.Bounds.{average_most, load_most, value_most}
use Rattle.kn_past.proofs.loads.bound_laws.Goals as goal

pub returns : goal.returns
returns c = record { load = load_most c.fact_laws.ensures c.size_laws.ensures.live; value = value_most c.fact_laws.ensures c.size_laws.ensures.live; average = average_most c.fact_laws.ensures c.size_laws.ensures.live }
