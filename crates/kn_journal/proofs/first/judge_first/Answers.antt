-- A line that names no version.
use Rattle.kn_journal.proofs.Tellings.{no-version}
use Rattle.kn_journal.proofs.first.judge_first.Goals as goal

pub returns-in-None-clause-judges : goal.returns-in-None-clause-judges
returns-in-None-clause-judges c = no-version c.args.number c.args.line.now c.args.first c.in-None.ensures.value
