use Rattle.kn_stats.proofs.Steps.{stands_none}
use Rattle.kn_stats.proofs.stats.Stats.new.Goals as goal

pub returns-clause-stands : goal.returns-clause-stands
returns-clause-stands c = rw (c.new-2.ensures.state, c.in-Ok.ensures.items) (stands_none c.args.metric c.args.start)
