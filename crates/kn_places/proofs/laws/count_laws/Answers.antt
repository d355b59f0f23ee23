use Rattle.kn_places.proofs.Counts.{are_counted}
use Rattle.kn_places.proofs.laws.count_laws.Goals as goal

pub returns : goal.returns
returns c = are_counted c.fact_laws.ensures c.append_laws.ensures.views c.append_laws.ensures.stands c.append_laws.ensures.admission c.order_laws.ensures.row c.step_laws.ensures.more
