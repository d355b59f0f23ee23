-- The number, or the line's fault.
use Rattle.kn_sim.proofs.Workloads.{named-bad, named-good}
use Rattle.kn_sim.proofs.read.judge_named.Goals as goal

pub returns-in-Ok-clause-judges : goal.returns-in-Ok-clause-judges
returns-in-Ok-clause-judges c = named-good c.args.word.now c.args.least c.args.most c.args.number c.in-Ok.n c.args.line.now c.in-Ok.ensures.value

pub returns-in-Err-clause-judges : goal.returns-in-Err-clause-judges
returns-in-Err-clause-judges c = named-bad c.args.word.now c.args.least c.args.most c.args.number c.args.line.now c.in-Err.why c.in-Err.ensures.value
