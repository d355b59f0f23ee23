use Rattle.kn_stats.proofs.Counted.{bounded_none, totals_none}
use Rattle.kn_stats.proofs.totals.Totals.new.Goals as goal

pub returns-clause-stands : goal.returns-clause-stands
returns-clause-stands c = rw (c.at.ensures, c.none.ensures, c.none-2.ensures) (totals_none c.args.metric c.args.start)
