use Rattle.kn_report.proofs.Threes.{three_written}
use Rattle.kn_report.proofs.digits.put_three.Goals as goal

pub returns-clause-text : goal.returns-clause-text
returns-clause-text c = three_written c.args.room.now c.args.at c.args.n c.requires.0 c.requires.1
