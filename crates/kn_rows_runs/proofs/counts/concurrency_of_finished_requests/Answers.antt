use Rattle.kn_rows_runs.proofs.Counting.{concurrency-finished-run}
use Rattle.kn_rows_runs.proofs.counts.concurrency_of_finished_requests.Goals as goal

pub returns : goal.returns
returns c = concurrency-finished-run c.trace_laws.ensures.append
