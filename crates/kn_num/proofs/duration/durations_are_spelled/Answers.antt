use Rattle.kn_num.proofs.DurationSpelling.{read_duration_is_spelled, spelled_duration_is_read, one_duration}
use Rattle.kn_num.proofs.duration.durations_are_spelled.Goals as goal

pub returns-clause-read : goal.returns-clause-read
returns-clause-read c = read_duration_is_spelled

pub returns-clause-spelled : goal.returns-clause-spelled
returns-clause-spelled c = spelled_duration_is_read

pub returns-clause-one : goal.returns-clause-one
returns-clause-one c = one_duration
