use Rattle.kn_past.proofs.Balance.{all_end_live, balance, live_counted, load_is}
use Rattle.kn_past.proofs.loads.load_laws.Goals as goal

pub returns : goal.returns
returns c = record { balance = balance c.fact_laws.ensures; load = load_is c.fact_laws.ensures; ends = all_end_live c.fact_laws.ensures; live = live_counted c.fact_laws.ensures }
