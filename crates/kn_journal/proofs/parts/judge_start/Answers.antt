-- Why a start's line is refused.
use Rattle.std.proofs.Common.{arith}
use Rattle.std.proofs.lemmas.Grind.{common_steps}
use Rattle.kn_journal.proofs.Tellings.{start-bad, start-late}
use Rattle.kn_journal.proofs.parts.judge_start.Goals as goal

pub returns-else-time-le-TIME_MOST-clause-judges : goal.returns-else-time-le-TIME_MOST-clause-judges
returns-else-time-le-TIME_MOST-clause-judges c = start-late c.args.number c.in-Ok.time c.args.line.now c.in-Ok.ensures (grind (arith, common_steps))

pub returns-in-Err-clause-judges : goal.returns-in-Err-clause-judges
returns-in-Err-clause-judges c = start-bad c.args.number c.in-Err.why c.args.line.now c.in-Err.ensures
