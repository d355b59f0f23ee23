use Rattle.std.proofs.Common.{◌∙◌, ◌<◌, ◌≤◌, List, ℕ, ap, arith, get_or, length, subst, sym}
use Rattle.kn_waits.proofs.Made.{is_made, is_zero, length-with_zeros}
use Rattle.kn_waits.proofs.counters.Counters.made.Goals as goal

pub returns-clause-short : goal.returns-clause-short
returns-clause-short c =
    let x = c.self.inside in
    omega (arith, ap length c.self.view_is, length-with_zeros x.count x.made.items c.self.invariant.short, ap length c.deref.ensures.value, c.self.invariant.short)

pub returns-clause-same : goal.returns-clause-same
returns-clause-same c w inside =
    let x = c.self.inside in
    let is = c.deref.ensures.value in
    ap (λ (l : List ℕ). get_or l w 0) (sym c.self.view_is) ∙ is_made x.count w x.made.items (subst (λ (l : List ℕ). w < length l) is inside)
    ∙ ap (λ (l : List ℕ). get_or l w 0) (sym is)

pub returns-clause-zeros : goal.returns-clause-zeros
returns-clause-zeros c w past =
    let x = c.self.inside in
    ap (λ (l : List ℕ). get_or l w 0) (sym c.self.view_is) ∙ is_zero x.count w x.made.items (subst (λ (l : List ℕ). length l ≤ w) c.deref.ensures.value past)
