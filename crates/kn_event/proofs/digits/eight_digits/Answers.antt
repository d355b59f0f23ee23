-- No byte is anything but a digit.
use mathlib.Core.Path.{ap, ◌∙◌}
use native.Mathlib.Omega.{arith}
use lib.Seq.{take_all}
use Rattle.core.specs.Str.Parse.{digits_value}
use Rattle.core.proofs.dec2flt.Eight.{lanes_are, all_digits, shifted_is}
use Rattle.kn_event.proofs.digits.eight_digits.Goals as goal

pub returns-clause-read : goal.returns-clause-read
returns-clause-read c word xs lanes eight is =
    let count = all_digits xs word eight is c.flags_from_ten.result (λ byte bytes e. c.flags_from_ten.ensures byte bytes (lanes ∙ e)) c.if-flags_from_ten-ne0.false in
    let whole = lanes ∙ lanes_are xs word eight is in
    let s = shifted_is xs 8 c.args.lanes eight (omega arith) (omega arith) (omega (arith, c.ranges.lanes.fits)) in
    (count, c.value_of_eight.ensures.value s.0 s.1 s.2 ∙ s.3 ∙ ap (digits_value 10) (take_all 8 xs (omega (arith, eight.0))))
