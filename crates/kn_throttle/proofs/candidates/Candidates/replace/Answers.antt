use Rattle.std.proofs.Common.{◌≡◌, ◌<◌, length, get_or, arith, rules}
use Rattle.std.proofs.lemmas.List.{get_or_default}
use Rattle.kn_trace.specs.declared.candidate.Cand.{Cand}
use Rattle.kn_throttle.proofs.Totals.{counted-at, counted-replaced, low-set, mark-at}
use Rattle.kn_throttle.proofs.candidates.Candidates.replace.Goals as goal

pub overflow_sub-self : goal.overflow_sub-self
overflow_sub-self c =
    let k = c.self.inside.cands.items in
    let x : Cand = get_or k c.args.i c.args.cand in
    let inside : c.args.i < length k = search rules in
    let one = counted-at k _ _ _ _ c.args.i x c.self.invariant.counted inside (get_or_default k c.args.i c.args.cand x inside) in
    let was = mark-at k _ _ _ _ c.args.i c.index.result.now c.args.cand c.self.invariant.counted inside c.index.ensures in
    omega (arith, was, one.seats)

pub invariant_of-self : goal.invariant_of-self
invariant_of-self c =
    let k = c.self.inside.cands.items in
    let x : Cand = get_or k c.args.i c.args.cand in
    let inside : c.args.i < length k = search rules in
    let was = mark-at k _ _ _ _ c.args.i c.index.result.now c.args.cand c.self.invariant.counted inside c.index.ensures in
    let same : x.limit ≡ c.args.cand.limit = rw c.self.view_is (c.requires.limit c.args.cand) in
    record {
      reserved = c.self.invariant.reserved;
      marks_reserved = c.self.invariant.marks_reserved;
      few = search rules;
      counted = rw (was, c.mark_of-mark.ensures) (counted-replaced k _ _ _ _ c.args.i x c.args.cand c.self.invariant.counted inside (get_or_default k c.args.i c.args.cand x inside) same);
      low = rw c.min-self-inside.ensures (low-set k c.self.inside.low c.args.i c.args.cand c.self.invariant.low inside);
    }
