use Rattle.std.proofs.Common.{◌≡◌, ◌∙◌, ◌<◌, length, get_or, ap, sym, arith, rules}
use Rattle.kn_trace.specs.declared.candidate.Cand.{Cand}
use Rattle.kn_policy.specs.Marks.{mark_of}
use Rattle.kn_throttle.proofs.Places.{others-at, others-none}
use Rattle.kn_throttle.proofs.Totals.{counted-removed, low-remove, mark-at}
use Rattle.kn_throttle.proofs.candidates.Candidates.remove.Goals as goal

pub invariant_of-self : goal.invariant_of-self
invariant_of-self c =
    let k = c.self.inside.cands.items in
    let x = c.remove-cand.result in
    let inside : c.in-Some.i < length k = search rules in
    let here : x ≡ get_or k c.in-Some.i x = c.remove-cand.ensures.value in
    let marked : c.remove-mark.result ≡ mark_of x = mark-at k _ _ _ _ c.in-Some.i c.remove-mark.result x c.self.invariant.counted inside c.remove-mark.ensures.value ∙ ap mark_of (sym here) in
    record {
      reserved = omega (arith, c.remove-cand.ensures.capacity, c.self.invariant.reserved);
      marks_reserved = omega (arith, c.remove-mark.ensures.capacity, c.self.invariant.marks_reserved);
      few = omega (arith, c.remove-cand.ensures.len, c.self.invariant.few);
      counted = rw (c.remove-cand.ensures.items, c.remove-mark.ensures.items, marked, c.unlimited.ensures) (counted-removed k _ _ _ _ c.in-Some.i x c.self.invariant.counted inside here);
      low = rw (c.remove-cand.ensures.items, c.min-self-inside.ensures) (low-remove k c.self.inside.low c.in-Some.i c.self.invariant.low inside);
    }

pub returns-in-Some : goal.returns-in-Some
returns-in-Some c =
    let d = c.remove-cand.result in
    let same : c.deref.result.now ≡ c.args.self.now = search rules in
    let gone = others-at (λ (k : Cand). k.pod) c.args.p c.args.self.now c.in-Some.i d c.requires (rw same at c.in-Some.ensures.inside) (rw same at (c.in-Some.ensures.there d)) in
    rw (c.remove-cand.ensures.items, c.self.view_is) (sym gone)

pub returns-in_default : goal.returns-in_default
returns-in_default c =
    let same : c.deref.result.now ≡ c.args.self.now = search rules in
    sym (others-none (λ (k : Cand). k.pod) c.args.p c.args.self.now (rw same at c.in_default.ensures.none))
