-- The digits of both words are the number's.
use mathlib.Core.Path.{refl}
use native.Mathlib.Omega.{arith}
use Rattle.kn_event.proofs.Words.{joined, scaled_fits}
use Rattle.kn_event.proofs.digits.further_digits.Goals as goal

pub overflow_mul-result : goal.overflow_mul-result
overflow_mul-result c = rw c.ten_to.ensures (omega (arith, scaled_fits c.args.high c.in_ok-len.len c.requires c.in_ok-len.ensures.few))

pub overflow_add-result-2 : goal.overflow_add-result-2
overflow_add-result-2 c =
    rw c.ten_to.ensures (omega (arith, scaled_fits c.args.high c.in_ok-len.len c.requires c.in_ok-len.ensures.few, c.in_ok-len.ensures.small))

pub returns-clause-read : goal.returns-clause-read
returns-clause-read c xs ys hx hy all is_high is_word =
    let low = c.in_ok-len.ensures.read c.args.word ys refl hy is_word in
    rw c.ten_to.ensures (joined xs ys _ _ _ hx.0 hy.0 all is_high c.in_ok-len.ensures.few low.0 low.1)
