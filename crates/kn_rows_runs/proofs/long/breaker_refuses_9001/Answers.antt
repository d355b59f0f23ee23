use Rattle.kn_rows_runs.proofs.Holding.{breaker-run}
use Rattle.kn_rows_runs.proofs.long.breaker_refuses_9001.Goals as goal

pub returns : goal.returns
returns c = breaker-run
