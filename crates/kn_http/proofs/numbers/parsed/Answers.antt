use Rattle.kn_http.proofs.Digits.{digits_are_text, parsed_digits}
use Rattle.kn_http.proofs.numbers.parsed.Goals as goal

pub returns-in-Ok : goal.returns-in-Ok
returns-in-Ok c =
    rw c.ok.ensures.value (parsed_digits c.args.digits.now _ c.requires.digits c.requires.some (rw c.in-Ok.ensures.cases.0 at c.parse.ensures.value.0))

pub returns-in-Err : goal.returns-in-Err
returns-in-Err c = absurd (c.in-Err.ensures.cases.0 (digits_are_text c.args.digits.now c.requires.digits))
