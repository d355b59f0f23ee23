use Rattle.kn_past.proofs.Quiet.{after_append, count_step, live_step, load_step}
use Rattle.kn_past.proofs.loads.step_laws.Goals as goal

pub returns : goal.returns
returns c = record { load = load_step c.fact_laws.ensures; live = live_step c.fact_laws.ensures; sums = after_append; count = count_step }
