use Rattle.kn_rows_runs.proofs.Counting.{rps-run}
use Rattle.kn_rows_runs.proofs.counts.rps_counts.Goals as goal

pub returns : goal.returns
returns c = rps-run c.trace_laws.ensures.append
