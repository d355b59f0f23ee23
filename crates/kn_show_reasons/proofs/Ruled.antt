-- What holds of every decision: what its lines rest on.
use Rattle.std.proofs.Common.{◌≡◌, refl, ℕ, ◌≤◌, ◌<◌, Bool, true, false, ltb, arith, List, ◌∷◌}
use Rattle.std.proofs.lemmas.Bool.Decides.{nat_tests}
use Rattle.kn_event.specs.declared.entry.Decision.{Decision}
use Rattle.kn_event.specs.declared.entry.Phase.{Phase}
use Rattle.kn_event.specs.declared.entry.Phase.TheVariants as phase
use Rattle.kn_event.specs.declared.revision.Spec.{Spec}
use Rattle.kn_event.specs.declared.units.Frac.{Frac}
use Rattle.kn_scaling.specs.declared.panic.Judged.{Judged}
use Rattle.kn_scaling.specs.declared.delay.Asked.{Asked}
use Rattle.kn_scaling.specs.declared.zero.Standing.{Standing}
use Rattle.kn_scaling.specs.Decide.{Past, ruling}
use Rattle.kn_scaling.specs.Delay.{delayed_count}
use Rattle.kn_scaling.specs.Demand.{count_for, desired_counts}
use Rattle.kn_scaling.specs.Panic.{greatest_of_run, greater_count, is_panicking, panicking_run, undelayed_count}
use Rattle.kn_scaling.specs.Zero.{zero_rule}
use Rattle.kn_show_reasons.specs.Sentences.{asked_now}

pub record AreRuled (s : Spec) (p : Phase) (d : Decision) : Type 0 where
  pub over : d.over ≡ true → (d.panicking ≡ true) × (asked_now s d ≤ d.undelayed)
  pub calm : d.panicking ≡ false → d.undelayed ≡ count_for s d.ready d.dspc
  pub later : d.undelayed ≤ d.delayed
  pub some : 0 < d.bounded → d.want ≡ d.bounded
  pub none : d.bounded ≡ 0 → s.to_zero ≡ true → p ≡ phase.Inactive → d.want ≡ 0

-- who is over panics
over_panics : (d : Judged) (earlier : List Judged) → d.counts.over ≡ true → is_panicking (d ∷ earlier) ≡ true
unfolding is_panicking
over_panics d earlier over = rw over (grind (arith, nat_tests))

-- in panic at least what this one asks for
most_of_run : (d : Judged) (earlier : List Judged) → is_panicking (d ∷ earlier) ≡ true → greater_count d ≤ undelayed_count (d ∷ earlier)
unfolding undelayed_count greatest_of_run panicking_run
most_of_run d earlier panics = rw panics (omega arith)

calm_count : (d : Judged) (earlier : List Judged) → is_panicking (d ∷ earlier) ≡ false → undelayed_count (d ∷ earlier) ≡ d.counts.stable_count
unfolding undelayed_count
calm_count d earlier calm = rw calm refl

delayed_most : (delay : ℕ) (a : Asked) (earlier : List Asked) → a.count ≤ delayed_count delay (a ∷ earlier)
unfolding delayed_count
delayed_most delay a earlier = omega arith

want_some : (s : Spec) (t ready bounded : ℕ) (x : Standing) → 0 < bounded → (zero_rule s t ready bounded x).want ≡ bounded
unfolding zero_rule
want_some s t ready bounded x some = by (ltb 0 bounded) refl
  where
    by : (b : Bool) → ltb 0 bounded ≡ b → (zero_rule s t ready bounded x).want ≡ bounded
    by true e = rw e refl
    by false e = absurd (grind (arith, nat_tests))

want_none : (s : Spec) (t ready bounded : ℕ) (x : Standing) → bounded ≡ 0 → s.to_zero ≡ true → x.phase ≡ phase.Inactive → (zero_rule s t ready bounded x).want ≡ 0
unfolding zero_rule
want_none s t ready bounded x none zero inactive = rw (none, zero, inactive) refl

pub are_ruled : (s : Spec) (past : Past) (t ready : ℕ) (stable panic : Frac) → AreRuled s past.standing.phase (ruling s past t ready stable panic).decision
unfolding ruling desired_counts
are_ruled s past t ready stable panic = record {
  over = λ is. let panics = over_panics _ _ is in (panics, most_of_run _ _ panics);
  calm = λ is. calm_count _ _ is;
  later = delayed_most s.delay_s _ _;
  some = λ is. want_some s t ready _ past.standing is;
  none = λ is zero inactive. want_none s t ready _ past.standing is zero inactive;
}
