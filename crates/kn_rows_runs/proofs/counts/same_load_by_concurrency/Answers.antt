use Rattle.kn_rows_runs.proofs.Counting.{same-load-run}
use Rattle.kn_rows_runs.proofs.counts.same_load_by_concurrency.Goals as goal

pub returns : goal.returns
returns c = same-load-run c.trace_laws.ensures.append
