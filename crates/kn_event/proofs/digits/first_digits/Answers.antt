-- The first digit's lane is not empty.
use mathlib.Core.Path.{refl}
use Rattle.core.proofs.dec2flt.Eight.{lanes_are}
use Rattle.kn_event.proofs.Words.{empty_lane}
use Rattle.kn_event.proofs.digits.first_digits.Goals as goal

pub returns-clause-lead : goal.returns-clause-lead
returns-clause-lead c xs eight is zero = c.if-lanes-eq0.false (rw (lanes_are xs _ eight is) (empty_lane xs eight zero))

pub returns-clause-read : goal.returns-clause-read
returns-clause-read c xs eight is = c.in_ok-value.ensures.read c.args.word xs refl eight is
