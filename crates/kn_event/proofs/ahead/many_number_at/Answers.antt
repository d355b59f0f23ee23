-- 8 to 15 digits from there on.
use Rattle.std.proofs.Common.{◌∙◌, ◌+◌, ℕ, arith}
use Rattle.core.proofs.dec2flt.Eight.{eight_at, word_at}
use Rattle.kn_event.proofs.Spots.{many_here}
use Rattle.kn_event.proofs.ahead.many_number_at.Goals as goal

pub returns-in-Some-further_digits : goal.returns-in-Some-further_digits
returns-in-Some-further_digits c =
    let bs = c.args.line.now in
    let from = c.args.from in
    let bytes = λ (k : ℕ). (c.type_inv.line k).fits in
    let first_bytes = eight_at bs from bytes (omega arith) in
    let second_bytes = eight_at bs (from + 8) bytes (omega arith) in
    let first = c.word_at.ensures.value ∙ word_at bs from (omega arith) in
    let second = c.word_at-in-Some.ensures.value ∙ word_at bs (from + 8) (omega arith) in
    let high = c.in-Some.ensures in
    let found = c.in-Some-further_digits.ensures in
    let eight = high.read _ first_bytes first in
    let read = found.read _ _ first_bytes second_bytes eight.0 eight.1 second in
    many_here bs from _ _ _ (omega arith) (omega arith) found.many found.most read.0 read.1 (high.lead _ first_bytes first)
