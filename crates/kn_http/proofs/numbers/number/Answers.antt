use Rattle.std.proofs.Common.{sym, ◌∙◌, arith}
use Rattle.kn_http.proofs.Digits.{said, short_said}
use Rattle.kn_http.proofs.numbers.number.Goals as goal

pub returns-clause-short : goal.returns-clause-short
returns-clause-short c few none =
    short_said c.args.value.now c.parsed.result (sym c.are_digits.ensures ∙ c.if-not-are_digits.false) c.parsed.ensures few none

pub returns-clause-says : goal.returns-clause-says
returns-clause-says c =
    said c.args.value.now c.parsed.result (sym c.are_digits.ensures ∙ c.if-not-are_digits.false) (grind (arith, c.if-is_empty.ensures))
    c.parsed.ensures
