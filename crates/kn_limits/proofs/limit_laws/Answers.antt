use Rattle.kn_limits.proofs.Law.{seats}
use Rattle.kn_limits.proofs.Limits.{limits, limit_set, pods_stay}
use Rattle.kn_limits.proofs.Stays.{stay}
use Rattle.kn_limits.proofs.limit_laws.Goals as goal

pub returns : goal.returns
returns c = record {
  runs = seats (record { next = c.append_laws.ensures.admission; stands = c.append_laws.ensures.stands; views = c.append_laws.ensures.views; order = c.order_laws.ensures.order; made = c.order_laws.ensures.row }) c.fact_laws.ensures c.part_laws.ensures;
  limits = limits c.fact_laws.ensures c.part_laws.ensures;
  set = limit_set c.fact_laws.ensures c.part_laws.ensures;
  pods = pods_stay c.fact_laws.ensures c.part_laws.ensures;
  stay = stay c.fact_laws.ensures c.part_laws.ensures;
}
