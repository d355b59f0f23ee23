-- A field that no setting is left for.
use Rattle.std.proofs.Common.{◌≡◌, ◌<◌, ◌∙◌, [], length, take, drop, arith}
use Rattle.std.proofs.lemmas.Grind.{common_steps}
use Rattle.kn_preamble.proofs.Settings.{one_too_many}
use Rattle.kn_preamble.proofs.setting.read_placed.Goals as goal

pub returns-else-end-line-clause-err : goal.returns-else-end-line-clause-err
returns-else-end-line-clause-err c =
    let left : drop c.loop-i.i c.args.settings.now ≡ [] = grind (arith, common_steps) in
    let more : 0 < length (drop c.loop-i.end c.args.line.now) = grind (arith, common_steps) in
    c.loop-i.invariant.read ∙ one_too_many (take c.loop-i.i c.loop-i.places) c.loop-i.end (drop c.loop-i.i c.args.settings.now) (drop c.loop-i.end c.args.line.now) left more
