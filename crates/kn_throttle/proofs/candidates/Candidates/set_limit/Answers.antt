use Rattle.std.proofs.Common.{◌≡◌, ◌∙◌, ◌<◌, length, ap, sym, get_or, set, arith, rules}
use Rattle.kn_trace.specs.declared.candidate.Cand.{Cand}
use Rattle.kn_throttle.specs.Candidates.{limited}
use Rattle.kn_throttle.proofs.Places.{changed-at, unchanged}
use Rattle.kn_throttle.proofs.Totals.{counted-set, limits-fit, low-set}
use Rattle.kn_throttle.proofs.candidates.Candidates.set_limit.Goals as goal

pub overflow_add-self : goal.overflow_add-self
overflow_add-self c = omega (arith, limits-fit c.self.inside.cands.items _ _ _ _ c.args.n c.self.invariant.counted c.self.invariant.few (search rules))

pub invariant_of-self : goal.invariant_of-self
invariant_of-self c =
    let k = c.self.inside.cands.items in
    let x = c.index.result.now in
    let inside : c.in-Some.i < length k = search rules in
    let here : x ≡ get_or k c.in-Some.i x = search rules in
    record {
      reserved = c.self.invariant.reserved;
      marks_reserved = c.self.invariant.marks_reserved;
      few = search rules;
      counted = rw (c.mark_of-mark.ensures, c.mark_of.ensures, c.unlimited.ensures, c.unlimited-in-Some.ensures) (counted-set k _ _ _ _ c.in-Some.i x (limited c.args.n x) c.self.invariant.counted inside here (search rules));
      low = rw c.min-self-inside.ensures (low-set k c.self.inside.low c.in-Some.i (limited c.args.n x) c.self.invariant.low inside);
    }

pub returns-in-Some : goal.returns-in-Some
returns-in-Some c =
    let x = c.index.result.now in
    let same : c.deref.result.now ≡ c.args.self.now = search rules in
    let read : x ≡ get_or c.args.self.now c.in-Some.i x = search rules in
    let moved = changed-at (λ (k : Cand). k.pod) c.args.p (limited c.args.n) c.args.self.now c.in-Some.i x c.requires (rw same at c.in-Some.ensures.inside) (rw same at (c.in-Some.ensures.there x)) in
    rw c.self.view_is (ap (λ (k : Cand). set c.args.self.now c.in-Some.i (limited c.args.n k)) read ∙ sym moved)

pub returns-in_default : goal.returns-in_default
returns-in_default c =
    let same : c.deref.result.now ≡ c.args.self.now = search rules in
    sym (unchanged (λ (k : Cand). k.pod) c.args.p (limited c.args.n) c.args.self.now (rw same at c.in_default.ensures.none))
