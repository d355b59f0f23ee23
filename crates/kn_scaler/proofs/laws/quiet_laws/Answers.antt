use Rattle.kn_scaler.proofs.Settlings.{quiet_all}
use Rattle.kn_scaler.proofs.laws.quiet_laws.Goals as goal

pub returns : goal.returns
returns c = quiet_all c.trace_facts.ensures c.row_laws.ensures.beside c.order_laws.ensures.row
