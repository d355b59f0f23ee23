use Rattle.kn_sizes.proofs.Finishing.{runs_on}
use Rattle.kn_sizes.proofs.Lasts.{arrivals_stay, assigned_stays, known_stays, outcome_lasts, pod_stays, proxied_stays, way_stays}
use Rattle.kn_sizes.proofs.Serving.{waits_once}
use Rattle.kn_sizes.proofs.server.lasting_laws.Goals as goal

pub returns : goal.returns
returns c = record {
  arrivals = arrivals_stay;
  known = known_stays;
  waits = waits_once c.fact_laws.ensures;
  outcome = outcome_lasts;
  pod = pod_stays c.fact_laws.ensures c.part_laws.ensures;
  assigned = assigned_stays c.fact_laws.ensures c.part_laws.ensures;
  proxied = proxied_stays c.fact_laws.ensures c.part_laws.ensures;
  way = way_stays c.fact_laws.ensures c.part_laws.ensures;
  runs = runs_on c.fact_laws.ensures c.part_laws.ensures;
}
