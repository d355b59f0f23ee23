use Rattle.kn_sizes.proofs.Starting.{created_stays, next_is_least, starting_created, starts_once}
use Rattle.kn_sizes.proofs.server.starting_laws.Goals as goal

pub returns : goal.returns
returns c = record { next = next_is_least c.fact_laws.ensures; created = starting_created c.fact_laws.ensures; stay = created_stays c.fact_laws.ensures; gone = starts_once c.fact_laws.ensures }
