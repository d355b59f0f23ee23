use Rattle.std.proofs.Common.{refl}
use Rattle.kn_trace.specs.Worked.{whole_run}
use Rattle.kn_rows_runs.specs.Long.{arrivals_from, assigned_from}
use Rattle.kn_rows_runs.proofs.long.scale_up_as_kubectl_prints.Goals as goal

pub returns : goal.returns
unfolding whole_run arrivals_from assigned_from
returns c = refl
