-- One to seven digits from there on.
use Rattle.std.proofs.Common.{◌∙◌, arith}
use Rattle.core.proofs.dec2flt.Eight.{eight_at, word_at}
use Rattle.kn_event.proofs.Spots.{few_here}
use Rattle.kn_event.proofs.ahead.few_at.Goals as goal

pub returns-clause-number : goal.returns-clause-number
returns-clause-number c =
    let bs = c.args.line.now in
    let from = c.args.from in
    let eight = eight_at bs from (λ k. (c.type_inv.line k).fits) (omega arith) in
    let word = c.word_at.ensures.value ∙ word_at bs from (omega arith) in
    let found = c.in_ok-len.ensures in
    let read = found.read _ eight word in
    few_here bs from _ _ _ (omega arith) (omega arith) found.some found.few read.0 read.1 (found.lead _ eight word)
