use Rattle.std.proofs.Common.{arith}
use Rattle.kn_report.proofs.Threes.{least_last, least_written, length_few}
use Rattle.kn_report.proofs.digits.put_least.Goals as goal

pub returns-clause-text : goal.returns-clause-text
returns-clause-text c = least_written c.args.room.now c.args.at c.args.n c.requires.0 c.requires.1

pub returns-clause-end : goal.returns-clause-end
returns-clause-end c = omega (arith, least_last c.args.n c.requires.0, length_few c.args.n c.requires.0)
