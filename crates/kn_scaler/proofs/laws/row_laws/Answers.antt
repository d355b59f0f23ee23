use Rattle.kn_scaler.proofs.Ready.{is_beside}
use Rattle.kn_scaler.proofs.laws.row_laws.Goals as goal

pub returns-clause-beside : goal.returns-clause-beside
returns-clause-beside c = is_beside c.append_laws.ensures.views c.append_laws.ensures.stands c.append_laws.ensures.append
