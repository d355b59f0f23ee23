use Rattle.kn_past.proofs.Later.{sample_is}
use Rattle.kn_past.proofs.Quiet.{before_all, count_none, load_whole}
use Rattle.kn_past.proofs.loads.quiet_laws.Goals as goal

pub returns : goal.returns
returns c = record { load = load_whole c.fact_laws.ensures; count = count_none; ready = before_all; sample = sample_is }
