-- Another line is refused.
use Rattle.std.proofs.Common.{◌≡◌, false, arith}
use Rattle.std.specs.Str.{bytes_eq}
use Rattle.std.proofs.lemmas.Grind.{common_steps}
use Rattle.kn_journal.proofs.Blocks.{word-other}
use Rattle.kn_journal.proofs.setup.judge_word.Goals as goal

pub returns-else-eq : goal.returns-else-eq
returns-else-eq c =
    let other : bytes_eq c.args.line.now c.args.word.now ≡ false = grind (arith, common_steps) in
    word-other c.args.word.now c.args.line.now c.args.number other
