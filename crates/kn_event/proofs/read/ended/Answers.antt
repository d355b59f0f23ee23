-- What follows is more than is due.
use Rattle.std.proofs.Common.{◌<◌, drop, length, sym, arith}
use Rattle.std.proofs.lemmas.Grind.{common_steps}
use Rattle.kn_event.proofs.Splitting.{end_due-more}
use Rattle.kn_event.proofs.read.ended.Goals as goal

pub returns-else-at-line : goal.returns-else-at-line
returns-else-at-line g c =
    let more : 0 < length (drop c.args.at c.args.line.now) = grind (arith, common_steps) in
    sym (end_due-more c.args.at (drop c.args.at c.args.line.now) c.args.value more)
