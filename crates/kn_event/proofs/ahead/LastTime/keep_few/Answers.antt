-- No other bytes give the kept words.
use Rattle.std.proofs.Common.{◌∙◌, arith}
use Rattle.kn_event.proofs.Kept.{few_told}
use Rattle.kn_event.proofs.ahead.LastTime.keep_few.Goals as goal

pub invariant_of-self : goal.invariant_of-self
invariant_of-self c = record {
  few = omega arith;
  small = c.ranges.time.fits;
  spelled = λ xs ys hx hy first second.
      let kept = c.requires.spelled in
      few_told c.args.len kept.0 xs ys c.requires.few hx (c.of.ensures xs kept.0 hx kept.1 kept.2 first) ∙ kept.3;
  scaled = c.self.invariant.scaled;
  front = λ xs hx first word other. absurd (other (rw (c.of_any.ensures.scale, c.of_any.ensures.moved) (omega arith)));
}
