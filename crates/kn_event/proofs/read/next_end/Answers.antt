-- The field after a space is the first one of what follows.
use Rattle.std.proofs.Common.{arith}
use Rattle.std.proofs.lemmas.Grind.{common_steps}
use Rattle.kn_event.proofs.Splitting.{next_field}
use Rattle.kn_event.proofs.read.next_end.Goals as goal

pub returns-clause-some : goal.returns-clause-some
returns-clause-some c = next_field c.args.line.now _ c.args.at c.first_end.result (grind (arith, common_steps)) (grind (arith, common_steps)) c.first_end.ensures.within c.first_end.ensures.is
