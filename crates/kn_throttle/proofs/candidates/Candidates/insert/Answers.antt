use Rattle.std.proofs.Common.{◌≡◌, ◌<◌, length, arith, rules}
use Rattle.std.specs.List.{insert}
use Rattle.std.proofs.lemmas.List.{length-map}
use Rattle.kn_policy.specs.Marks.{mark_of}
use Rattle.kn_throttle.proofs.Totals.{counted-inserted, limits-fit, low-insert}
use Rattle.kn_throttle.proofs.candidates.Candidates.insert.Goals as goal

pub overflow_add-self : goal.overflow_add-self
overflow_add-self c = omega (arith, limits-fit c.self.inside.cands.items _ _ _ _ c.args.cand.limit c.self.invariant.counted c.self.invariant.few (search rules))

pub invariant_of-self : goal.invariant_of-self
invariant_of-self c =
    let k = c.self.inside.cands.items in
    let few : length k < 20500 = search rules in
    let as_many : length c.self.inside.marks.items ≡ length k = rw c.self.invariant.counted.marked (length-map k mark_of) in
    let marked : c.insert.new.self.items ≡ insert c.self.inside.marks.items c.place_behind-place.result c.mark_of-mark.result = search rules in
    let put : c.insert-2.new.self.items ≡ insert k c.place_behind-place.result c.args.cand = search rules in
    record {
      reserved = omega (arith, c.insert-2.ensures.capacity, c.self.invariant.reserved);
      marks_reserved = omega (arith, c.insert.ensures.capacity, c.self.invariant.marks_reserved);
      few = search rules;
      counted = rw (put, marked, c.mark_of-mark.ensures, c.unlimited.ensures) (counted-inserted k _ _ _ _ c.place_behind-place.result c.args.cand c.self.invariant.counted (search rules));
      low = rw (put, c.min-self-inside.ensures) (low-insert k c.self.inside.low c.place_behind-place.result c.args.cand c.self.invariant.low (search rules));
    }
