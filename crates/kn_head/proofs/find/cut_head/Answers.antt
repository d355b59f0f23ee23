use Rattle.std.proofs.Common.{subst, arith}
use Rattle.kn_head.specs.Told.{Stops}
use Rattle.kn_head.proofs.LineCounts.{head_exceeds, head_fits}
use Rattle.kn_head.proofs.HeadFronts.{head_stopped, head_ended_long}
use Rattle.kn_head.proofs.find.cut_head.Goals as goal

pub returns-in-EndedEarly-clause-why : goal.returns-in-EndedEarly-clause-why
returns-in-EndedEarly-clause-why c known stops =
    head_ended_long known c.args.bytes.now c.requires.short (head_exceeds c.args.bytes.now c.requires.unfinished (omega arith))
    (subst (Stops c.args.bytes.now known) c.in-EndedEarly.is stops)

pub returns-in_default-clause-why : goal.returns-in_default-clause-why
returns-in_default-clause-why c known stops =
    head_stopped c.args.stop known c.args.bytes.now c.requires.short c.requires.unfinished (λ ended. head_fits c.args.bytes.now (omega arith)) stops
