use Rattle.kn_num.proofs.Spelling.{read_is_spelled, spelled_is_read, read_whole_is_spelled, spelled_whole_is_read, one_value}
use Rattle.kn_num.proofs.number.numbers_are_spelled.Goals as goal

pub returns-clause-read : goal.returns-clause-read
returns-clause-read c = read_is_spelled

pub returns-clause-spelled : goal.returns-clause-spelled
returns-clause-spelled c = spelled_is_read

pub returns-clause-one : goal.returns-clause-one
returns-clause-one c = one_value

pub returns-clause-whole : goal.returns-clause-whole
returns-clause-whole c = read_whole_is_spelled

pub returns-clause-digits : goal.returns-clause-digits
returns-clause-digits c = spelled_whole_is_read
