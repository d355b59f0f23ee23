-- The first byte that is no digit, and the digits before it moved up to the end.
use mathlib.Core.Path.{sym, ◌∙◌}
use native.Mathlib.Omega.{arith}
use Rattle.core.proofs.dec2flt.Eight.{lanes_are, first_other, shifted_is}
use Rattle.kn_event.proofs.digits.leading_digits.Goals as goal

pub returns-clause-read : goal.returns-clause-read
returns-clause-read c word xs lanes eight is =
    let first = first_other xs word eight is c.flags_from_ten-others.result (λ byte bytes e. c.flags_from_ten-others.ensures byte bytes (lanes ∙ e)) (omega (arith, c.if-others-eq0.false)) in
    let s = shifted_is xs _ c.keep_first.result eight (omega arith) (omega arith) (rw (lanes ∙ lanes_are xs word eight is) at c.keep_first.ensures) in
    (sym first.0, c.value_of_eight.ensures.value s.0 s.1 s.2 ∙ s.3)
