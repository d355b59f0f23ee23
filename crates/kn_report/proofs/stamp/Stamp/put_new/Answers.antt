use Rattle.std.proofs.Common.{◌≡◌, ◌+◌, ◌-◌, take, arith, ap, refl, ◌∙◌}
use Rattle.std.specs.Fmt.{decimal}
use Rattle.kn_report.proofs.InPlace.{kept, text_end}
use Rattle.kn_report.proofs.stamp.Stamp.put_new.Goals as goal

pub overflow_sub-self : goal.overflow_sub-self
overflow_sub-self c =
    omega (arith, text_end c.args.room.now c.put_number-end.new.room (decimal c.args.time) c.args.at c.put_number-end.result (omega arith) (omega arith) c.put_number-end.ensures.text)

pub invariant_of-self : goal.invariant_of-self
invariant_of-self c =
    let long = text_end c.args.room.now c.put_number-end.new.room (decimal c.args.time) c.args.at c.put_number-end.result (omega arith) (omega arith) c.put_number-end.ensures.text in
    let n = c.put_number-end.result - c.args.at in
    let end : c.args.at + n ≡ c.put_number-end.result = omega (arith, long) in
    let most : c.args.at + 24 - c.args.at ≡ 24 = omega arith in
    record {
      late = omega arith;
      begin = refl;
      short = omega arith;
      text =
          ap (take n) (rw most at c.copy_from_slice.ensures.after)
          ∙ kept c.args.room.now c.put_number-end.new.room (decimal c.args.time) c.args.at n 24 (omega arith) (omega arith) (rw end c.put_number-end.ensures.text);
    }
