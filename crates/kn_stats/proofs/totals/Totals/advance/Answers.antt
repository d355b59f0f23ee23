use Rattle.std.proofs.Common.{◌≡◌, sym, ap, subst, ◌∙◌, ◌≤◌, arith}
use Rattle.std.proofs.lemmas.Bool.{eqb-true}
use Rattle.kn_scaling.specs.Average.{second_of}
use Rattle.kn_stats.specs.Totals.{IsBounded, IsTotalsOf, TotalsState}
use Rattle.kn_stats.proofs.Closings.{alike, closed_is, none_closed, passed_within, quiet}
use Rattle.kn_stats.proofs.Counted.{bounded_passed, totals_passed}
use Rattle.kn_stats.proofs.totals.Totals.advance.Goals.{Then-has_second_of}
use Rattle.kn_stats.proofs.totals.Totals.advance.Goals as goal

-- ---- within the open second

same : (c : Then-has_second_of) → second_of c.self.inside.clock ≡ second_of c.args.to
same c = eqb-true _ _ (sym c.has_second_of.ensures ∙ c.if-has_second_of.true)

later : (c : Then-has_second_of) → c.self.inside.clock ≤ c.args.to
later c = let time = ap (λ (t : TotalsState). t.time) c.self.view_is in omega (arith, time, c.requires)

pub invariant_of-self : goal.invariant_of-self
invariant_of-self c = rw c.go_on.ensures (subst IsBounded (sym (passed_within _ c.args.to (same c.before.before))) (bounded_passed _ c.args.to (later c.before.before) c.self.invariant))

pub returns-then-has_second_of-clause-closed : goal.returns-then-has_second_of-clause-closed
returns-then-has_second_of-clause-closed c = λ cs is.
    let time = ap (λ (t : TotalsState). second_of t.time) (sym c.self.view_is) in
    sym (none_closed c.args.self.now c.args.to c.args.ready (time ∙ same c.before.before)) ∙ closed_is c.args.self.now cs c.args.to c.args.ready is

pub returns-then-has_second_of-clause-alike : goal.returns-then-has_second_of-clause-alike
returns-then-has_second_of-clause-alike c = λ cs s is after. alike c.args.self.now cs s is after

pub returns-then-has_second_of-clause-quiet : goal.returns-then-has_second_of-clause-quiet
returns-then-has_second_of-clause-quiet c = λ cs s is after. quiet c.args.self.now cs s is after

pub returns-then-has_second_of-clause-stands : goal.returns-then-has_second_of-clause-stands
returns-then-has_second_of-clause-stands c = λ cs is.
    rw c.go_on.ensures
    (subst (λ t. IsTotalsOf t cs) (sym (passed_within _ c.args.to (same c.before.before)))
    (totals_passed _ c.args.to (later c.before.before) cs (subst (λ t. IsTotalsOf t cs) (sym c.self.view_is) is)))

-- ---- into a later one

pub returns-clause-closed : goal.returns-clause-closed
returns-clause-closed c = λ cs is. c.begin_second.ensures.closed ∙ closed_is c.args.self.now cs c.args.to c.args.ready is

pub returns-clause-alike : goal.returns-clause-alike
returns-clause-alike c = λ cs s is after. alike c.args.self.now cs s is after

pub returns-clause-quiet : goal.returns-clause-quiet
returns-clause-quiet c = λ cs s is after. quiet c.args.self.now cs s is after

pub returns-clause-stands : goal.returns-clause-stands
returns-clause-stands c = λ cs is. subst (λ t. IsTotalsOf t cs) (sym c.begin_second.ensures.state) (totals_passed c.args.self.now c.args.to c.requires cs is)
