-- Where sentences stand: exactly where the rule that they tell of changed the count.
use Rattle.std.specs.Prelude.{◌≡◌, ℕ, ◌==◌, ◌<◌, not, ◌&&◌, ◌||◌, nat_lt, nat_le, ◌∷◌, map}
use Rattle.kn_event.specs.Revision.{AreInRange}
use Rattle.kn_event.specs.declared.entry.Decision.{Decision}
use Rattle.kn_event.specs.declared.units.Frac.{Frac}
use Rattle.kn_event.specs.declared.revision.Spec.{Spec}
use Rattle.kn_scaling.specs.Average.{second_of}
use Rattle.kn_scaling.specs.Decide.{Past, asked_of, judged_of, ruling}
use Rattle.kn_scaling.specs.Delay.{recent_count}
use Rattle.kn_scaling.specs.Demand.{count_for, is_over, within_rates}
use Rattle.kn_scaling.specs.Panic.{is_panicking}
use Rattle.kn_scaling.specs.Zero.{lower_bound}
use Rattle.kn_levers.specs.Levers.{is_cut, is_kept, is_raised}

-- of what an average asks for: the up rate's where the rates take pods away, the down rate's where they add some, and the
-- activation scale's where that adds some
pub record RatesTell (s : Spec) (ready pods : ℕ) : Type 0 where
  pub cut : is_cut s ready pods ≡ nat_lt (within_rates s ready pods) pods
  pub kept : is_kept s ready pods ≡ nat_lt pods (within_rates s ready pods)
  pub raised : is_raised s ready pods ≡ nat_lt (within_rates s ready pods) (count_for s ready pods)

-- of a decision: those of panic where the pods asked for are over the threshold, and where it panics; the delay's where more
-- was asked for within it; those of the lower bounds where less is asked for than the lower bound, min-scale's where that is
-- the initial scale or more, or that was reached; and those of the upper bounds where more is asked for than they let, and
-- no lower bound holds
pub record BoundsTell (s : Spec) (past : Past) (t : ℕ) (d : Decision) : Type 0 where
  pub over : d.over ≡ is_over s d.ready d.dppc
  pub panicking : d.panicking ≡ is_panicking (map (judged_of s) (record { time = t; decision = d } ∷ past.decisions))
  pub delay : nat_lt d.undelayed d.delayed ≡ nat_lt d.undelayed (recent_count s.delay_s (second_of t) (map asked_of past.decisions))
  pub least : nat_lt d.delayed d.bounded ≡ nat_lt d.delayed (lower_bound s past.reached)
  pub min : d.delayed < d.bounded → (d.bounded == s.min) ≡ (past.reached || nat_le s.initial s.min)
  pub most : nat_lt d.bounded d.delayed ≡ (not (nat_lt d.delayed (lower_bound s past.reached)) && (nat_lt 500 d.delayed || (nat_lt 0 s.max && nat_lt s.max d.delayed)))

abbrev pub Tells : Spec → Past → ℕ → ℕ → Frac → Frac → Type 0
Tells s past t ready stable panic = BoundsTell s past t (ruling s past t ready stable panic).decision

-- this holds of whatever is decided by a specification in range
abbrev pub AtEachDecision : (Spec → Past → ℕ → ℕ → Frac → Frac → Type 0) → Type 0
AtEachDecision P = (s : Spec) (past : Past) (t ready : ℕ) (stable panic : Frac) → AreInRange s → P s past t ready stable panic
