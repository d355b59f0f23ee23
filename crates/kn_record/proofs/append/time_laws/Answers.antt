use Rattle.kn_record.proofs.Ordering.{nothing_timed, stands_timed, step_timed}
use Rattle.kn_record.proofs.append.time_laws.Goals as goal

pub returns : goal.returns
returns c = record { timed = stands_timed; nothing = nothing_timed; step = step_timed }
