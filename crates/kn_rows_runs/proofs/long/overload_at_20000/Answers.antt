use Rattle.kn_rows_runs.proofs.Overloads.{overload-run}
use Rattle.kn_rows_runs.proofs.long.overload_at_20000.Goals as goal

pub returns-clause-arrivals : goal.returns-clause-arrivals
returns-clause-arrivals c = overload-run c.trace_laws.ensures.append
