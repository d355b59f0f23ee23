-- No other bytes give the kept words.
use Rattle.std.proofs.Common.{◌∙◌}
use Rattle.kn_event.proofs.Kept.{many_told, whole_told}
use Rattle.kn_event.proofs.ahead.LastTime.keep_many.Goals as goal

pub invariant_of-self : goal.invariant_of-self
invariant_of-self c = record {
  few = c.requires.most;
  small = c.ranges.time.fits;
  spelled = λ xs ys hx hy first second.
      let kept = c.requires.spelled in
      many_told c.args.len kept.0 kept.1 xs ys c.requires.many kept.2 hx (c.of.ensures xs kept.0 hx kept.2 kept.4 first) (c.of-2.ensures ys kept.1 hy kept.3 kept.5 second) ∙ kept.6;
  scaled = c.requires.scaled;
  front = λ xs hx first word other.
      let kept = c.requires.spelled in
      rw (whole_told kept.0 xs kept.2 hx (c.of.ensures xs kept.0 hx kept.2 kept.4 first)) kept.7;
}
