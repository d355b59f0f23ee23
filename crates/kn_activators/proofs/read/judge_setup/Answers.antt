-- The setup, or the line's fault.
use Rattle.kn_activators.proofs.Parts.{setup-bad, setup-good}
use Rattle.kn_activators.proofs.read.judge_setup.Goals as goal

pub returns-in-Ok-clause-judges : goal.returns-in-Ok-clause-judges
returns-in-Ok-clause-judges c = setup-good c.args.many c.args.number c.in-Ok.fixed c.args.line.now c.in-Ok.ensures.value

pub returns-in-Err-clause-judges : goal.returns-in-Err-clause-judges
returns-in-Err-clause-judges c = setup-bad c.args.many c.args.number c.args.line.now c.in-Err.why c.in-Err.ensures.value
