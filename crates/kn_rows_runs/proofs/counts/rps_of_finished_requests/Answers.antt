use Rattle.kn_rows_runs.proofs.Counting.{rps-finished-run}
use Rattle.kn_rows_runs.proofs.counts.rps_of_finished_requests.Goals as goal

pub returns : goal.returns
returns c = rps-finished-run c.trace_laws.ensures.append
