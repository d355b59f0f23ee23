-- What is named of a decision is in range.
use Rattle.std.proofs.Common.{◌≡◌, refl, ℕ, ◌+◌, ◌-◌, ◌*◌, ◌/◌, ◌<◌, ◌≤◌, Bool, true, false, not, cond, ◌&&◌, ◌||◌, arith, lit≤}
use Rattle.std.specs.Prelude.{◌==◌, nat_lt, nat_le}
use Rattle.std.proofs.lemmas.Bool.Decides.{nat_tests}
use Rattle.kn_event.specs.Defaults.{milli}
use Rattle.kn_event.specs.Ranges.{IsRate, IsTotal}
use Rattle.kn_event.specs.Revision.{AreInRange}
use Rattle.kn_event.specs.declared.entry.Decision.{Decision}
use Rattle.kn_event.specs.declared.entry.Phase.{Phase}
use Rattle.kn_event.specs.declared.entry.Phase.TheVariants as phase
use Rattle.kn_event.specs.declared.revision.Spec.{Spec}
use Rattle.kn_event.specs.declared.units.Frac.{Frac}
use Rattle.kn_event.specs.declared.units.Milli.{Milli}
use Rattle.kn_scaling.specs.Zero.{pods_most}
use Rattle.kn_levers.specs.declared.lever.Before.{Before}
use Rattle.kn_levers.specs.declared.lever.Change.{Change}
use Rattle.kn_levers.specs.declared.lever.Setting.{Setting}
use Rattle.kn_levers.specs.declared.lever.Setting.TheVariants as setting
use Rattle.kn_levers.specs.declared.lever.Why.{Why}
use Rattle.kn_levers.specs.declared.lever.Why.TheVariants as why
use Rattle.kn_levers.specs.Laws.{EachInRange, before_of, decision_in, delayed_by}
use Rattle.kn_levers.specs.Levers.{asked, asks_more, at_zero, bears_less, begins_panic, borne, both_bounds, by_bound, by_average, by_counts, by_earlier, by_rule, capped, change_of, hangs_on_down, hangs_on_panic, has_above, has_below, in_active, in_phase, is_grace_over, is_kept, is_raised, is_young, keeps_one, kept, least, least_why, lets_fewer, longer, most_down, most_why, one_more, one_pod, raised, stable_count, stay}
use Rattle.kn_levers.specs.Settings.{hour_ms, hour_s, least_rate, least_target, most_rate, most_threshold, with_setting}
use Rattle.kn_scaling.specs.Demand.{count_for, max_scale_down, max_scale_up}
use Rattle.kn_levers.proofs.Answered.{and_is, is_less, same_is}
use Rattle.kn_levers.proofs.Bounded.{bounded_most}
use Rattle.kn_levers.proofs.Decided.{decided}

-- ---- settings, each in its range

bounds_in : (s : Spec) (least most initial : ℕ) → AreInRange s → least ≤ 500 → most ≤ 1000000000 → (0 < most → least ≤ most) → initial ≤ 500
    → AreInRange (record s { min = least; max = most; initial = initial })
bounds_in s lowest most initial range few many order first = assumption (few, many, order, first)

periods_in : (s : Spec) (on : Bool) (grace retention : ℕ) → AreInRange s → grace ≤ hour_ms → retention ≤ hour_ms → AreInRange (record s { to_zero = on; grace_ms = grace; retention_ms = retention })
periods_in s on grace retention range one two = assumption (one, two)

window_in : (s : Spec) (seconds : ℕ) → AreInRange s → 6 ≤ seconds → seconds ≤ hour_s → AreInRange (record s { stable_s = seconds })
window_in s seconds range short long = assumption (short, long)

activation_in : (s : Spec) (n : ℕ) → AreInRange s → 1 ≤ n → n ≤ 500 → AreInRange (record s { activation = n })
activation_in s n range some few = assumption (some, few)

rates_in : (s : Spec) (up down : Milli) → AreInRange s → IsRate up → IsRate down → AreInRange (record s { up = up; down = down })
rates_in s up down range one two = assumption (one, two)

target_in : (s : Spec) → AreInRange s → AreInRange (with_setting s setting.Target)
target_in s range =
    let total : IsTotal (milli 10) = record { least = lit≤ tt; most = lit≤ tt } in
    let least : 1000000 ≤ least_target.num = lit≤ tt in
    let most : least_target.num ≤ 100000000000000 = lit≤ tt in
    let den : least_target.den ≡ 100000000 = refl in
    assumption (total, least, most, den)

threshold_in : (s : Spec) → AreInRange s → AreInRange (with_setting s setting.Panic)
threshold_in s range =
    let least : 1000 ≤ most_threshold.0 = lit≤ tt in
    let most : most_threshold.0 ≤ 10000000 = lit≤ tt in
    assumption (least, most)

delay_in : (s : Spec) → AreInRange s → AreInRange (with_setting s setting.Delay)
delay_in s range = let none : 0 ≤ 3600 = lit≤ tt in assumption (none)

most_rate_is : IsRate most_rate
most_rate_is = record { least = lit≤ tt; most = lit≤ tt }

least_rate_is : IsRate least_rate
least_rate_is = record { least = lit≤ tt; most = lit≤ tt }

below : (n most : ℕ) → (most == 0 || nat_lt n most) ≡ true → 0 < most → n + 1 ≤ most
below n most room some = grind (arith, nat_tests)

two : (most : ℕ) → (most == 1) ≡ false → 0 < most → 2 ≤ most
two most e some = grind (arith, nat_tests)

short : (n : ℕ) → nat_le 6000 n ≡ true → 6 ≤ n / 1000
short n e = grind (arith, nat_tests)

long : (n stable : ℕ) → stable ≤ 3600 → nat_lt n (1000 * stable) ≡ true → n / 1000 ≤ 3600
long n stable most e = grind (arith, nat_tests)

module _ (s : Spec) (range : AreInRange s) (x : Before) (d : Decision) (most : d.bounded ≤ pods_most) where
  abbrev In : Setting → Type 0
  In y = AreInRange (with_setting s y)

  -- ---- bounds

  above_in : has_above s d ≡ true → In (one_more d)
  above_in e =
      let both = and_is (nat_lt d.bounded pods_most) (s.max == 0 || nat_lt d.bounded s.max) e in
      bounds_in s (d.bounded + 1) s.max s.initial range (let few = is_less d.bounded pods_most both.0 in omega arith) range.max (below d.bounded s.max both.1) range.initial

  below_in : has_below s d ≡ true → In (setting.Max (d.bounded - 1))
  below_in e =
      let both = and_is (nat_le 2 d.bounded) (nat_lt s.min d.bounded) e in
      let less = is_less s.min d.bounded both.1 in
      bounds_in s s.min (d.bounded - 1) s.initial range range.min (omega (arith, most)) (λ some. omega (arith, less)) range.initial

  initial_in : d.bounded < pods_most → In (setting.Initial (d.bounded + 1))
  initial_in few = bounds_in s s.min s.max (d.bounded + 1) range range.min range.max range.max_above_min (omega (arith, few))

  both_in : In (both_bounds s x d)
  both_in = by (nat_lt d.bounded pods_most) refl (x.reached || nat_lt s.initial pods_most)
    where
      by : (c : Bool) → nat_lt d.bounded pods_most ≡ c → (i : Bool)
          → In (cond c (setting.MinAndMax (d.bounded + 1) 0) (cond i (setting.MinAndMax (pods_most - 1) (pods_most - 1)) (setting.Bounds (pods_most - 1))))
      by true e i =
          let few = is_less d.bounded pods_most e in
          bounds_in s (d.bounded + 1) 0 s.initial range (omega (arith, few)) (lit≤ tt) (λ some. absurd (omega (arith, some))) range.initial
      by false e true = bounds_in s (pods_most - 1) (pods_most - 1) s.initial range (lit≤ tt) (lit≤ tt) (λ some. lit≤ tt) range.initial
      by false e false = bounds_in s (pods_most - 1) (pods_most - 1) (pods_most - 1) range (lit≤ tt) (lit≤ tt) (λ some. lit≤ tt) (lit≤ tt)

  unreached_in : (not x.reached && nat_lt d.bounded pods_most) ≡ true → In (setting.Initial (d.bounded + 1))
  unreached_in g = initial_in (is_less d.bounded pods_most (and_is (not x.reached) (nat_lt d.bounded pods_most) g).1)

  bound_in : (w : Why) → In (by_bound s x d w).setting
  bound_in w = by (has_above s d) refl (has_below s d) refl (not x.reached && nat_lt d.bounded pods_most) refl
    where
      by : (a : Bool) → has_above s d ≡ a → (c : Bool) → has_below s d ≡ c → (i : Bool) → (not x.reached && nat_lt d.bounded pods_most) ≡ i
          → In (cond a (one_more d) (cond c (setting.Max (d.bounded - 1)) (cond i (setting.Initial (d.bounded + 1)) (both_bounds s x d))))
      by true e c f i g = above_in e
      by false e true f i g = below_in f
      by false e false f true g = unreached_in g
      by false e false f false g = both_in

  -- ---- no pod is asked for

  on_in : (on : Bool) → In (setting.ToZero on)
  on_in on = periods_in s on s.grace_ms s.retention_ms range range.grace range.retention

  one_pod_in : In (one_pod s).setting
  one_pod_in = by (s.max == 1) refl
    where
      by : (b : Bool) → (s.max == 1) ≡ b → In (cond b (setting.MinAndMax 2 2) (setting.Min 2))
      by true e = bounds_in s 2 2 s.initial range (lit≤ tt) (lit≤ tt) (λ some. lit≤ tt) range.initial
      by false e = bounds_in s 2 s.max s.initial range (lit≤ tt) range.max (two s.max e) range.initial

  longer_in : (period : Setting) → In period → In (longer x period).setting
  longer_in period fits = by (nat_lt x.passed hour_ms)
    where
      by : (b : Bool) → In (cond b (by_rule period) (by_rule (setting.ToZero false))).setting
      by true = fits
      by false = on_in false

  stay_in : In (stay s x)
  stay_in = by (nat_le s.retention_ms x.passed) (is_grace_over s x)
    where
      by : (r g : Bool) → In (cond r setting.Grace (cond g (setting.Retention 0) setting.GraceAndRetention))
      by true g = periods_in s s.to_zero 0 s.retention_ms range (lit≤ tt) range.retention
      by false true = periods_in s s.to_zero s.grace_ms 0 range range.grace (lit≤ tt)
      by false false = periods_in s s.to_zero 0 0 range (lit≤ tt) (lit≤ tt)

  active_in : In (in_active s x).setting
  active_in = by (nat_lt x.passed (1000 * s.stable_s)) refl (nat_le 6000 x.passed) refl
    where
      by : (y : Bool) → nat_lt x.passed (1000 * s.stable_s) ≡ y → (w : Bool) → nat_le 6000 x.passed ≡ w
          → In (cond y (cond w (by_rule (setting.StableWindow (x.passed / 1000))) (one_pod s)) (longer x (setting.StableWindow hour_s))).setting
      by true e true f = window_in s (x.passed / 1000) range (short x.passed f) (long x.passed s.stable_s range.stable_most e)
      by true e false f = one_pod_in
      by false e w f = longer_in (setting.StableWindow hour_s) (window_in s hour_s range (lit≤ tt) (lit≤ tt))

  phase_in : (p : Phase) → In (in_phase p s x d).setting
  phase_in phase.Activating = bounds_in s 1 s.max s.initial range (lit≤ tt) range.max (λ some. some) range.initial
  phase_in phase.Active = active_in
  phase_in phase.Inactive = by d.applied
    where
      by : (b : Bool) → In (cond b (longer x (setting.Retention hour_ms)) (by_rule (stay s x))).setting
      by true = longer_in (setting.Retention hour_ms) (periods_in s s.to_zero s.grace_ms hour_ms range range.grace (lit≤ tt))
      by false = stay_in

  zero_in : In (at_zero s x d).setting
  zero_in = by s.to_zero (is_young s x.phase x.passed)
    where
      by : (z y : Bool) → In (cond z (in_phase x.phase s x d) (cond y (one_pod s) (by_rule (setting.ToZero true)))).setting
      by true y = phase_in x.phase
      by false true = one_pod_in
      by false false = on_in true

  -- ---- a bound holds

  least_in : d.bounded ≡ s.min → In (least s x d)
  least_in equal =
      by (has_above s d) refl (not x.reached && nat_lt d.bounded pods_most) refl (not x.reached && (s.initial == d.bounded)) (d.bounded == 1 && keeps_one s x)
    where
      down : 0 < s.max → d.bounded - 1 ≤ s.max
      down some = let order = range.max_above_min some in omega (arith, order, equal)

      by : (a : Bool) → has_above s d ≡ a → (i : Bool) → (not x.reached && nat_lt d.bounded pods_most) ≡ i → (j o : Bool)
          → In (cond a (one_more d) (cond i (setting.Initial (d.bounded + 1)) (cond j (setting.MinAndInitial (d.bounded - 1)) (cond o (setting.MinAndMax 2 2) (setting.Min (d.bounded - 1))))))
      by true e i g j o = above_in e
      by false e true g j o = unreached_in g
      by false e false g true o = bounds_in s (d.bounded - 1) s.max (d.bounded - 1) range (omega (arith, most)) range.max down (omega (arith, most))
      by false e false g false true = bounds_in s 2 2 s.initial range (lit≤ tt) (lit≤ tt) (λ some. lit≤ tt) range.initial
      by false e false g false false = bounds_in s (d.bounded - 1) s.max s.initial range (omega (arith, most)) range.max down range.initial

  raised_in : In (raised s x d).setting
  raised_in = by (d.bounded == s.min) refl (nat_lt d.bounded pods_most) refl
    where
      by : (b : Bool) → (d.bounded == s.min) ≡ b → (c : Bool) → nat_lt d.bounded pods_most ≡ c
          → In (cond b (by_rule (least s x d)) (cond c (by_rule (setting.Initial (d.bounded + 1))) (by_rule (setting.Initial (pods_most - 1))))).setting
      by true e c f = least_in (same_is d.bounded s.min e)
      by false e true f = initial_in (is_less d.bounded pods_most f)
      by false e false f = bounds_in s s.min s.max (pods_most - 1) range range.min range.max range.max_above_min (lit≤ tt)

  capped_in : In (capped s x d).setting
  capped_in = by (nat_lt d.bounded pods_most) (nat_lt s.min pods_most) refl
    where
      by : (c i : Bool) → nat_lt s.min pods_most ≡ i
          → In (cond c (by_rule (setting.Max 0)) (cond i (record { setting = setting.Max (pods_most - 1); why = why.Ceiling }) (record { setting = both_bounds s x d; why = why.Ceiling }))).setting
      by true i f = bounds_in s s.min 0 s.initial range range.min (lit≤ tt) (λ some. absurd (omega (arith, some))) range.initial
      by false true f = let few = is_less s.min pods_most f in bounds_in s s.min (pods_most - 1) s.initial range range.min (lit≤ tt) (λ some. omega (arith, few)) range.initial
      by false false f = both_in

  -- ---- what is asked for is wanted

  kept_in : has_above s d ≡ true → In (kept s d).setting
  kept_in above = by (nat_lt (max_scale_down s d.ready) (most_down d.ready))
    where
      by : (b : Bool) → In (cond b (by_rule (setting.DownRate least_rate)) (record { setting = one_more d; why = why.DownRateHolds })).setting
      by true = rates_in s s.up least_rate range range.up least_rate_is
      by false = above_in above

  borne_in : (pods : ℕ) (average : Frac) → has_above s d ≡ true → In (borne d pods average).setting
  borne_in pods average above = by (bears_less pods average)
    where
      by : (b : Bool) → In (cond {A = Change} b (record { setting = setting.Target; why = why.OrLoad }) (record { setting = one_more d; why = why.NoTarget })).setting
      by true = target_in s range
      by false = above_in above

  asks_more_in : (pods : ℕ) (average : Frac) → has_above s d ≡ true → In (asks_more s d pods average).setting
  asks_more_in pods average above = by (nat_lt (max_scale_up s d.ready) pods) (is_kept s d.ready pods) (nat_lt pods (max_scale_up s d.ready))
    where
      by : (u k l : Bool) → In (cond u (by_rule setting.UpRate) (cond k (kept s d) (cond l (borne d pods average) (record { setting = one_more d; why = why.UpRateHolds })))).setting
      by true k l = rates_in s most_rate s.down range most_rate_is range.down
      by false true l = kept_in above
      by false false true = borne_in pods average above
      by false false false = above_in above

  average_in : (pods : ℕ) (average : Frac) → In (by_average s x d pods average).setting
  average_in pods average = by (has_above s d) refl (is_raised s d.ready pods) (hangs_on_down s x d pods)
    where
      few : has_above s d ≡ true → d.bounded + 1 ≤ 500
      few e = let less = is_less d.bounded pods_most (and_is (nat_lt d.bounded pods_most) (s.max == 0 || nat_lt d.bounded s.max) e).0 in omega (arith, less)

      by : (a : Bool) → has_above s d ≡ a → (r h : Bool)
          → In (cond (a && r) (by_rule (setting.Activation (d.bounded + 1))) (cond h (by_rule (setting.DownRate most_rate)) (cond a (asks_more s d pods average) (by_bound s x d (most_why d))))).setting
      by true e true h = activation_in s (d.bounded + 1) range (omega arith) (few e)
      by true e false true = rates_in s s.up most_rate range range.up most_rate_is
      by true e false false = asks_more_in pods average e
      by false e r true = rates_in s s.up most_rate range range.up most_rate_is
      by false e r false = bound_in (most_why d)

  earlier_in : In (by_earlier s x d).setting
  earlier_in = by (has_below s d) refl
    where
      by : (c : Bool) → has_below s d ≡ c → In (cond {A = Change} c (record { setting = setting.Max (d.bounded - 1); why = why.PanicKeeps }) (by_bound s x d why.PanicKeeps)).setting
      by true f = below_in f
      by false f = bound_in why.PanicKeeps

  counts_in : In (by_counts s x d).setting
  counts_in = by (d.undelayed == stable_count s d) (d.panicking && d.undelayed == count_for s d.ready d.dppc)
    where
      by : (a p : Bool) → In (cond a (by_average s x d d.dspc d.stable) (cond p (by_average s x d d.dppc d.panic) (by_earlier s x d))).setting
      by true p = average_in d.dspc d.stable
      by false true = average_in d.dppc d.panic
      by false false = earlier_in

  asked_in : In (asked s x d).setting
  asked_in = by (nat_lt d.undelayed d.delayed) (lets_fewer s x d d.undelayed) (begins_panic x d && hangs_on_panic s x d)
    where
      by : (l f p : Bool) → In (cond l (cond f (by_rule setting.Delay) (by_bound s x d (least_why s x d))) (cond p (by_rule setting.Panic) (by_counts s x d))).setting
      by true true p = delay_in s range
      by true false p = bound_in (least_why s x d)
      by false f true = threshold_in s range
      by false f false = counts_in

  pub change_in_range : In (change_of s x d).setting
  unfolding change_of
  change_in_range = by (d.bounded == 0) (nat_lt d.delayed d.bounded) (nat_lt d.bounded d.delayed)
    where
      by : (z l c : Bool) → In (cond z (at_zero s x d) (cond l (raised s x d) (cond c (capped s x d) (asked s x d)))).setting
      by true l c = zero_in
      by false true c = raised_in
      by false false true = capped_in
      by false false false = asked_in

pub each_in_range : EachInRange
each_in_range s m recents range =
    let is = decided s m in
    let few = bounded_most s m.past.reached (delayed_by s s m) in
    change_in_range s range (before_of s m recents) (decision_in s m) (omega (arith, is.bounded, few))
