-- Where sentences stand.
use Rattle.std.proofs.Common.{◌≡◌, refl, ℕ, ◌≤◌, ◌<◌, Bool, true, false, cond, ltb, leb, eqb, not, ◌&&◌, ◌||◌, arith, map}
use Rattle.std.specs.Prelude.{max, min}
use Rattle.std.proofs.lemmas.Bool.Decides.{nat_tests}
use Rattle.kn_event.specs.Revision.{AreInRange}
use Rattle.kn_event.specs.declared.revision.Spec.{Spec}
use Rattle.kn_event.specs.declared.units.Frac.{Frac}
use Rattle.kn_scaling.specs.Average.{second_of}
use Rattle.kn_scaling.specs.Decide.{Past, asked_of, ruling}
use Rattle.kn_scaling.specs.Delay.{delayed_count, recent_count}
use Rattle.kn_scaling.specs.Demand.{count_for, desired_counts, max_scale_down, max_scale_up, within_rates}
use Rattle.kn_scaling.specs.Zero.{bounded_count, lower_bound}
use Rattle.kn_show_reasons.specs.Holding.{RatesTell, Tells}
use Rattle.kn_show_reasons.proofs.Reading.{down_up}

cut_is : (u d n : ℕ) → d ≤ u → ltb u (max d n) ≡ ltb (min u (max d n)) n
cut_is u d n le = grind (arith, nat_tests)

kept_is : (u d n : ℕ) → d ≤ u → ltb n d ≡ ltb n (min u (max d n))
kept_is u d n le = grind (arith, nat_tests)

raised_is : (w a : ℕ) → (ltb 0 w && ltb w a) ≡ ltb w (cond (ltb 0 w && ltb w a) a w)
raised_is w a = grind (arith, nat_tests)

pub rates_tell : (s : Spec) (ready pods : ℕ) → AreInRange s → RatesTell s ready pods
unfolding count_for
rates_tell s ready pods range =
    let order = down_up s ready range in
    record {
      cut = cut_is (max_scale_up s ready) (max_scale_down s ready) pods order;
      kept = kept_is (max_scale_up s ready) (max_scale_down s ready) pods order;
      raised = raised_is (within_rates s ready pods) s.activation;
    }

-- ---- the delay and the bounds

delay_is : (u r : ℕ) → ltb u (max u r) ≡ ltb u r
delay_is u r = grind (arith, nat_tests)

abbrev bounded_by : ℕ → ℕ → ℕ → ℕ
bounded_by low most n = min 500 (cond (ltb n low) low (cond (eqb most 0) n (min most n)))

least_is : (low most n : ℕ) → low ≤ 500 → ltb n (bounded_by low most n) ≡ ltb n low
least_is low most n le = grind (arith, nat_tests)

most_is : (low most n : ℕ) → low ≤ 500 → ltb (bounded_by low most n) n ≡ (not (ltb n low) && (ltb 500 n || (ltb 0 most && ltb most n)))
most_is low most n le = grind (arith, nat_tests)

lower_most : (s : Spec) (reached : Bool) → AreInRange s → lower_bound s reached ≤ 500
unfolding lower_bound
lower_most s true range = range.min
lower_most s false range = omega (arith, range.min, range.initial)

min_is : (s : Spec) (reached : Bool) (n : ℕ) → AreInRange s → n < bounded_by (lower_bound s reached) s.max n → eqb (bounded_by (lower_bound s reached) s.max n) s.min ≡ (reached || leb s.initial s.min)
unfolding lower_bound
min_is s true n range less = let few = range.min in grind (arith, nat_tests)
min_is s false n range less = let few = range.min in let more = range.initial in grind (arith, nat_tests)

pub tells : (s : Spec) (past : Past) (t ready : ℕ) (stable panic : Frac) → AreInRange s → Tells s past t ready stable panic
unfolding ruling desired_counts delayed_count bounded_count
tells s past t ready stable panic range = record {
  over = refl;
  panicking = refl;
  delay = delay_is _ (recent_count s.delay_s (second_of t) (map asked_of past.decisions));
  least = least_is (lower_bound s past.reached) s.max _ (lower_most s past.reached range);
  min = λ less. min_is s past.reached _ range less;
  most = most_is (lower_bound s past.reached) s.max _ (lower_most s past.reached range);
}
