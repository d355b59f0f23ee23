use Rattle.kn_places.proofs.Allowed.{can_change}
use Rattle.kn_places.proofs.laws.measure_laws.Goals as goal

pub returns : goal.returns
returns c = record {
  change = λ s b x totals made proper stands. can_change c.fact_laws.ensures c.append_laws.ensures.views c.append_laws.ensures.stands c.count_laws.ensures s b totals made stands x proper;
}
