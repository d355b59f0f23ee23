-- Where what is asked for is wanted, what is named changes the decision.
use Rattle.std.proofs.Common.{◌≡◌, refl, sym, ap, ◌∙◌, ℕ, ◌+◌, ◌*◌, ◌/◌, ◌<◌, ◌≤◌, Bool, true, false, not, cond, ◌&&◌, ◌||◌, arith, lit<, ◌∷◌, mul_assoc, mul-le-mul, mul-le-mul_right, mul-pos}
use Rattle.std.specs.Prelude.{◌==◌, nat_lt, nat_le, max}
use Rattle.std.specs.Int.{div_ceil}
use Rattle.std.specs.List.{find}
use Rattle.std.proofs.Math.Nat.{div-le_of_le-mul}
use Rattle.std.proofs.lemmas.Bool.Decides.{nat_tests}
use Rattle.std.proofs.lemmas.Grind.{div_ceil_times}
use Rattle.kn_event.specs.Revision.{AreInRange}
use Rattle.kn_event.specs.declared.entry.Decision.{Decision}
use Rattle.kn_event.specs.declared.revision.Spec.{Spec}
use Rattle.kn_event.specs.declared.units.Frac.{Frac}
use Rattle.kn_event.specs.declared.units.Milli.{Milli}
use Rattle.kn_scaling.specs.Average.{second_of}
use Rattle.kn_scaling.specs.Demand.{count_for, desired_counts, is_over, max_scale_down, max_scale_up, one_or_more, pods_for, with_activation, within_rates}
use Rattle.kn_scaling.specs.Panic.{is_over_decision, is_panicking, is_within_window, undelayed_count}
use Rattle.kn_scaling.specs.Zero.{bounded_count, lower_bound, pods_most}
use Rattle.kn_levers.specs.declared.lever.Change.{Change}
use Rattle.kn_levers.specs.declared.lever.Setting.TheVariants as setting
use Rattle.kn_levers.specs.declared.lever.Why.TheVariants as why
use Rattle.kn_levers.specs.Laws.{Changes, IsInOrder, Moment, asked_before, before_of, bounded_by, delayed_by, judged_before, judged_now, recent_in, undelayed_by}
use Rattle.kn_levers.specs.Levers.{asked, asks_more, bears_less, begins_panic, borne, by_bound, by_average, by_counts, by_earlier, by_rule, hangs_on_down, hangs_on_panic, has_above, is_kept, is_raised, keeps_one, kept, least_why, lets_fewer, most_down, most_why, one_more, stable_count}
use Rattle.kn_levers.specs.Settings.{least_rate, most_rate, most_threshold, with_setting}
use Rattle.kn_levers.proofs.Answered.{and_is, is_false, is_less, less_is, not_less, or_true, same_is}
use Rattle.kn_levers.proofs.AtBounds.{above_changes, bound_changes, earlier_changes}
use Rattle.kn_levers.proofs.Bounded.{bounded_some, bounded_within, more_rises}
use Rattle.kn_levers.proofs.Decided.{IsDecidedIn, delayed_by_is, lower_changes, more_changes}
use Rattle.kn_levers.proofs.Panics.{calm_count, most_of_run, panic_stays, stable_least, undelayed_alone}

not_one : (b : ℕ) → 1 < b → (b == 1) ≡ false
not_one b more = grind (arith, nat_tests)

-- ---- what an average asks for by other rates

-- the fewest are no more than the most
rates_order : (u d m : ℕ) → 1001 ≤ u → 1001 ≤ d → (1000 * m) / d ≤ div_ceil (u * m) 1000
rates_order u d m hu hd =
    let down : 1000 * m ≤ d * m = mul-le-mul (omega arith) (omega arith) in
    let least : (1000 * m) / d ≤ m = div-le_of_le-mul d down in
    let up : 1001 * m ≤ u * m = mul-le-mul hu (omega arith) in
    let times = div_ceil_times (u * m) 1000 (lit< tt) in
    omega (arith, least, up, times.0)

down_up : (s : Spec) (ready : ℕ) → AreInRange s → max_scale_down s ready ≤ max_scale_up s ready
unfolding max_scale_down max_scale_up
down_up s ready range = rates_order s.up.0 s.down.0 (one_or_more ready) range.up.least range.down.least

most_down_up : (s : Spec) (ready : ℕ) → AreInRange s → most_down ready ≤ max_scale_up s ready
unfolding max_scale_up
most_down_up s ready range = rates_order s.up.0 1001 (one_or_more ready) range.up.least (omega arith)

-- at the greatest rate 500 pods or more may be asked for
wide : (s : Spec) (ready : ℕ) → pods_most ≤ max_scale_up (record s { up = most_rate }) ready
unfolding max_scale_up
wide s ready = let times = div_ceil_times (1000000000 * max 1 ready) 1000 (lit< tt) in omega (arith, times.0)

same_down : (s : Spec) (ready : ℕ) → max_scale_down (record s { up = most_rate }) ready ≡ max_scale_down s ready
unfolding max_scale_down
same_down s ready = refl

-- at the least down rate
least_down : (s : Spec) (ready : ℕ) → max_scale_down (record s { down = least_rate }) ready ≡ most_down ready
unfolding max_scale_down
least_down s ready = refl

-- at the greatest none are kept
no_down : (s : Spec) (ready : ℕ) → ready ≤ pods_most → max_scale_down (record s { down = most_rate }) ready ≡ 0
unfolding max_scale_down
no_down s ready few = none (max 1 ready) (omega arith)
  where
    none : (n : ℕ) → n ≤ 500 → (1000 * n) / 1000000000 ≡ 0
    none n few = omega arith

least_up : (s : Spec) (ready : ℕ) → max_scale_up (record s { down = least_rate }) ready ≡ max_scale_up s ready
unfolding max_scale_up
least_up s ready = refl

most_up : (s : Spec) (ready : ℕ) → max_scale_up (record s { down = most_rate }) ready ≡ max_scale_up s ready
unfolding max_scale_up
most_up s ready = refl

-- ---- counts

-- what an average asks for is at least what the rates let
active_more : (w n : ℕ) → w ≤ cond (nat_lt 0 w && nat_lt w n) n w
active_more w n = grind (arith, nat_tests)

count_least : (s : Spec) (ready pods : ℕ) → within_rates s ready pods ≤ count_for s ready pods
unfolding count_for
count_least s ready pods = active_more (within_rates s ready pods) s.activation

-- and that, where the activation scale doesn't raise it
count_is : (s : Spec) (ready pods : ℕ) → is_raised s ready pods ≡ false → count_for s ready pods ≡ within_rates s ready pods
unfolding count_for
count_is s ready pods low = rw low refl

active_least : (w n : ℕ) → nat_lt 0 w ≡ true → n ≤ cond (nat_lt 0 w && nat_lt w n) n w
active_least w n some = grind (arith, nat_tests)

activation_raises : (s : Spec) (ready pods n : ℕ) → is_raised s ready pods ≡ true → n ≤ count_for (record s { activation = n }) ready pods
unfolding count_for max_scale_up max_scale_down
activation_raises s ready pods n raised = active_least (within_rates s ready pods) n (and_is (nat_lt 0 (within_rates s ready pods)) (nat_lt (within_rates s ready pods) s.activation) raised).0

up_raises : (s : Spec) (ready pods b : ℕ) → is_raised s ready pods ≡ false → b ≡ count_for s ready pods → b < pods_most → max_scale_up s ready < pods
    → b < count_for (record s { up = most_rate }) ready pods
up_raises s ready pods b low is few cut =
    let count = count_is s ready pods low in
    let least = count_least (record s { up = most_rate }) ready pods in
    let much = wide s ready in
    let same = same_down s ready in
    omega (arith, count, least, much, same, is, few, cut)

down_raises : (s : Spec) (ready pods b : ℕ) → AreInRange s → is_raised s ready pods ≡ false → b ≡ count_for s ready pods → pods < max_scale_down s ready → max_scale_down s ready < most_down ready
    → b < count_for (record s { down = least_rate }) ready pods
down_raises s ready pods b range low is less more =
    let count = count_is s ready pods low in
    let least = count_least (record s { down = least_rate }) ready pods in
    let down = least_down s ready in
    let up = least_up s ready in
    let order = most_down_up s ready range in
    omega (arith, count, least, down, up, order, is, less, more)

target_up : (s : Spec) (ready : ℕ) → (max_scale_up (with_setting s setting.Target) ready ≡ max_scale_up s ready) × (max_scale_down (with_setting s setting.Target) ready ≡ max_scale_down s ready)
unfolding max_scale_up max_scale_down
target_up s ready = (refl, refl)

target_raises : (s : Spec) (ready pods more b : ℕ) → is_raised s ready pods ≡ false → b ≡ count_for s ready pods → max_scale_down s ready ≤ pods → pods < max_scale_up s ready → pods < more
    → b < count_for (with_setting s setting.Target) ready more
target_raises s ready pods more b low is down up asks =
    let count = count_is s ready pods low in
    let least = count_least (with_setting s setting.Target) ready more in
    let same = target_up s ready in
    omega (arith, count, least, same.0, same.1, is, down, up, asks)

-- more pods are asked for at the least target
target_needs : (pods num den : ℕ) → pods * den < 100 * num → 0 < den → pods < div_ceil (num * 100000000) (den * 1000000)
target_needs pods num den less some = by (nat_lt pods (div_ceil (num * 100000000) (den * 1000000))) refl
  where
    by : (b : Bool) → nat_lt pods (div_ceil (num * 100000000) (den * 1000000)) ≡ b → pods < div_ceil (num * 100000000) (den * 1000000)
    by true e = is_less pods (div_ceil (num * 100000000) (den * 1000000)) e
    by false e =
        let few = not_less pods (div_ceil (num * 100000000) (den * 1000000)) e in
        let times = div_ceil_times (num * 100000000) (den * 1000000) (mul-pos some (lit< tt)) in
        let most : div_ceil (num * 100000000) (den * 1000000) * (den * 1000000) ≤ pods * (den * 1000000) = mul-le-mul_right (den * 1000000) few in
        let turn : pods * den * 1000000 ≡ pods * (den * 1000000) = mul_assoc pods den 1000000 in
        absurd (omega (arith, times.0, most, turn, less))

target_more : (s : Spec) (pods : ℕ) (average : Frac) → bears_less pods average ≡ true → pods < pods_for (with_setting s setting.Target) average
unfolding pods_for
target_more s pods average less = target_needs pods average.num average.den (is_less (pods * average.den) (100 * average.num) less) average.above_zero

-- ---- panic by other settings

over_stays : (a p q : ℕ) → p ≤ q → nat_le a (p * 100000) ≡ true → nat_le a (q * 100000) ≡ true
over_stays a p q more over = grind (arith, nat_tests)

is_over_stays : (s t : Spec) (ready p q : ℕ) → t.panic_threshold ≡ s.panic_threshold → p ≤ q → is_over s ready p ≡ true → is_over t ready q ≡ true
unfolding is_over
is_over_stays s t ready p q threshold more over = rw threshold (over_stays (s.panic_threshold.0 * one_or_more ready) p q more over)

-- by other rates and another activation scale an average is borne by as many
same_pods : (s : Spec) (average : Frac) (activation : ℕ) (up down : Milli) → pods_for (record s { activation = activation; up = up; down = down }) average ≡ pods_for s average
unfolding pods_for
same_pods s average activation up down = refl

-- by another specification at least what its count for this average is
abbrev Raises : Spec → Moment → ℕ → Frac → Type 0
Raises s m ready average =
    (t : Spec) → t.panic_threshold ≡ s.panic_threshold → t.stable_s ≡ s.stable_s → pods_for s average ≤ pods_for t average → count_for t ready (pods_for t average) ≤ undelayed_by s t m

stable_raises : (s : Spec) (m : Moment) → Raises s m m.ready m.stable
unfolding desired_counts
stable_raises s m t threshold window more = stable_least (judged_now t m) (judged_before s m)

panic_raises : (s : Spec) (m : Moment) → is_panicking (judged_now s m ∷ judged_before s m) ≡ true → Raises s m m.ready m.panic
unfolding desired_counts
panic_raises s m panics t threshold window more =
    let panics' = panic_stays (judged_now s m) (judged_now t m) (judged_before s m) refl (omega (arith, window)) (is_over_stays s t m.ready (pods_for s m.panic) (pods_for t m.panic) threshold more) panics in
    let most = most_of_run (judged_now t m) (judged_before s m) panics' in
    omega (arith, most)

-- at the greatest threshold a panic that would begin does not
calm_at_most : (s : Spec) (m : Moment) → is_within_window (judged_now s m) (find is_over_decision (judged_before s m)) ≡ false → pods_for s m.panic < 100 * one_or_more m.ready
    → undelayed_by s (record s { panic_threshold = most_threshold }) m ≡ count_for s m.ready (pods_for s m.stable)
unfolding undelayed_count is_panicking desired_counts is_over pods_for count_for max_scale_up max_scale_down
calm_at_most s m begins few = rw (calm (pods_for s m.panic) (one_or_more m.ready) few, begins) refl
  where
    calm : (pods n : ℕ) → pods < 100 * n → nat_le (10000000 * n) (pods * 100000) ≡ false
    calm pods n few = grind (arith, nat_tests)

-- without the down rate, out of panic
calm_stays : (s : Spec) (m : Moment) → is_panicking (judged_now s m ∷ judged_before s m) ≡ false → is_panicking (judged_now (record s { down = most_rate }) m ∷ judged_before s m) ≡ false
unfolding desired_counts pods_for is_over
calm_stays s m calm = by (is_panicking (judged_now (record s { down = most_rate }) m ∷ judged_before s m)) refl
  where
    by : (b : Bool) → is_panicking (judged_now (record s { down = most_rate }) m ∷ judged_before s m) ≡ b → is_panicking (judged_now (record s { down = most_rate }) m ∷ judged_before s m) ≡ false
    by false e = e
    by true e =
        let panics : is_panicking (judged_now s m ∷ judged_before s m) ≡ true =
        panic_stays (judged_now (record s { down = most_rate }) m) (judged_now s m) (judged_before s m) refl (omega arith) (λ over. over) e in
        absurd (let g : false ≡ true = sym calm ∙ panics in cc)

down_asks : (s : Spec) (m : Moment) → is_panicking (judged_now s m ∷ judged_before s m) ≡ false
    → undelayed_by s (record s { down = most_rate }) m ≡ count_for (record s { down = most_rate }) m.ready (pods_for s m.stable)
unfolding desired_counts pods_for
down_asks s m calm = calm_count (judged_now (record s { down = most_rate }) m) (judged_before s m) (calm_stays s m calm)

active_count : (s : Spec) (ready pods : ℕ) → within_rates (record s { down = most_rate }) ready pods ≡ pods → count_for (record s { down = most_rate }) ready pods ≡ with_activation s pods
unfolding count_for
active_count s ready pods within = ap (with_activation s) within

free_count : (s : Spec) (ready pods : ℕ) → AreInRange s → ready ≤ pods_most → pods < max_scale_down s ready → count_for (record s { down = most_rate }) ready pods ≡ with_activation s pods
free_count s ready pods range few less =
    let order = down_up s ready range in
    let none = no_down s ready few in
    let up = most_up s ready in
    let within : within_rates (record s { down = most_rate }) ready pods ≡ pods = omega (arith, order, none, up, less) in
    active_count s ready pods within

-- ---- without the delay

undelayed_now : (s : Spec) (m : Moment) → delayed_by s (record s { delay_s = 0 }) m ≡ undelayed_by s s m
unfolding desired_counts pods_for max_scale_up max_scale_down count_for is_over
undelayed_now s m = undelayed_alone (record { second = second_of m.time; count = undelayed_by s s m }) (asked_before m)

same_within : (s : Spec) (reached : Bool) (n : ℕ)
    → (bounded_count (record s { delay_s = 0 }) reached n ≡ bounded_count s reached n) × (bounded_count (record s { panic_threshold = most_threshold }) reached n ≡ bounded_count s reached n)
    × (bounded_count (record s { down = most_rate }) reached n ≡ bounded_count s reached n)
unfolding bounded_count lower_bound
same_within s reached n = (refl, refl, refl)

module _ (s : Spec) (m : Moment) (d : Decision) (is : IsDecidedIn s m d) (range : AreInRange s) (order : IsInOrder m) (recents : ℕ) (recent : recent_in s m ≤ recents) where
  -- so many asked for let fewer be wanted, and so do fewer
  fewer_changes : (t : Spec) (n k : ℕ) → t.to_zero ≡ s.to_zero → t.stable_s ≡ s.stable_s → bounded_by s t m ≡ bounded_count s m.past.reached k → k ≤ n
      → lets_fewer s (before_of s m recents) d n ≡ true → Changes s t m
  fewer_changes t n k zero window bounded few lets =
      let both = and_is (nat_lt (max (lower_bound s m.past.reached) n) d.bounded) (nat_lt 0 (max (lower_bound s m.past.reached) n) || not ((d.bounded == 1) && keeps_one s (before_of s m recents))) lets in
      let less = is_less (max (lower_bound s m.past.reached) n) d.bounded both.0 in
      let within = bounded_within s m.past.reached k in
      lower_changes s t m order zero window (omega (arith, bounded, within, less, few, is.bounded)) (by (nat_lt 0 (max (lower_bound s m.past.reached) k)) refl (kept less (nat_lt 0 (max (lower_bound s m.past.reached) n)) refl both.1))
    where
      -- none among them only where no pod is kept
      kept : max (lower_bound s m.past.reached) n < d.bounded → (b : Bool) → nat_lt 0 (max (lower_bound s m.past.reached) n) ≡ b
          → (b || not ((d.bounded == 1) && keeps_one s (before_of s m recents))) ≡ true → not ((d.bounded == 1) && keeps_one s (before_of s m recents)) ≡ true
      kept less true e h =
          let some = is_less 0 (max (lower_bound s m.past.reached) n) e in
          let more : (d.bounded == 1) ≡ false = not_one d.bounded (omega (arith, some, less)) in
          rw more refl
      kept less false e h = h

      by : (b : Bool) → nat_lt 0 (max (lower_bound s m.past.reached) k) ≡ b → not ((d.bounded == 1) && keeps_one s (before_of s m recents)) ≡ true
          → (nat_lt 0 (bounded_by s t m) || not ((bounded_by s s m == 1) && keeps_one s (before_of s m recents))) ≡ true
      by true e h =
          let some = bounded_some s m.past.reached k (is_less 0 (max (lower_bound s m.past.reached) k) e) in
          rw (less_is 0 (bounded_by s t m) (omega (arith, bounded, some))) refl
      by false e h = rw (sym is.bounded, h) (or_true (nat_lt 0 (bounded_by s t m)))

  delay_changes : lets_fewer s (before_of s m recents) d d.undelayed ≡ true → Changes s (record s { delay_s = 0 }) m
  delay_changes lets =
      fewer_changes (record s { delay_s = 0 }) d.undelayed d.undelayed refl refl
      (ap (bounded_count (record s { delay_s = 0 }) m.past.reached) (undelayed_now s m ∙ sym is.undelayed) ∙ (same_within s m.past.reached d.undelayed).0) (omega arith) lets

  stable_is : stable_count s d ≡ count_for s m.ready (pods_for s m.stable)
  stable_is = rw (is.ready, is.dspc) refl

  panic_changes : (begins_panic (before_of s m recents) d && hangs_on_panic s (before_of s m recents) d) ≡ true → Changes s (record s { panic_threshold = most_threshold }) m
  panic_changes h =
      let t : Spec = record s { panic_threshold = most_threshold } in
      let both = and_is (begins_panic (before_of s m recents) d) (hangs_on_panic s (before_of s m recents) d) h in
      let begins = and_is d.over (not (before_of s m recents).over) both.0 in
      let first = and_is (nat_lt d.dppc (100 * one_or_more d.ready)) (nat_lt (stable_count s d) d.undelayed && lets_fewer s (before_of s m recents) d (max (stable_count s d) recents)) both.1 in
      let second = and_is (nat_lt (stable_count s d) d.undelayed) (lets_fewer s (before_of s m recents) d (max (stable_count s d) recents)) first.1 in
      let few : nat_lt (pods_for s m.panic) (100 * one_or_more m.ready) ≡ true = rw (sym is.dppc, sym is.ready) first.0 in
      let asks = calm_at_most s m (is_false (before_of s m recents).over begins.1) (is_less (pods_for s m.panic) (100 * one_or_more m.ready) few) in
      let delayed : delayed_by s t m ≡ max (stable_count s d) (recent_in s m) = delayed_by_is s t m ∙ ap (λ (n : ℕ). max n (recent_in s m)) (asks ∙ sym stable_is) in
      fewer_changes t (max (stable_count s d) recents) (max (stable_count s d) (recent_in s m)) refl refl
      (ap (bounded_count t m.past.reached) delayed ∙ (same_within s m.past.reached (max (stable_count s d) (recent_in s m))).1) (omega (arith, recent)) second.1

  down_changes : (pods : ℕ) → (d.panicking ≡ false → pods ≡ d.dspc) → hangs_on_down s (before_of s m recents) d pods ≡ true → Changes s (record s { down = most_rate }) m
  down_changes pods stable h =
      let t : Spec = record s { down = most_rate } in
      let both = and_is (is_kept s d.ready pods) (not d.panicking && lets_fewer s (before_of s m recents) d (max (with_activation s pods) recents)) h in
      let rest = and_is (not d.panicking) (lets_fewer s (before_of s m recents) d (max (with_activation s pods) recents)) both.1 in
      let calm = is_false d.panicking rest.0 in
      let less : pods < max_scale_down s m.ready = is_less pods (max_scale_down s m.ready) (rw (sym is.ready) both.0) in
      let pods_is : pods_for s m.stable ≡ pods = sym (stable calm ∙ is.dspc) in
      let asks = down_asks s m (sym is.panicking ∙ calm) in
      let free = free_count s m.ready pods range order.ready less in
      let undelayed_is : undelayed_by s t m ≡ with_activation s pods = asks ∙ ap (count_for t m.ready) pods_is ∙ free in
      let delayed : delayed_by s t m ≡ max (with_activation s pods) (recent_in s m) = delayed_by_is s t m ∙ ap (λ (n : ℕ). max n (recent_in s m)) undelayed_is in
      fewer_changes t (max (with_activation s pods) recents) (max (with_activation s pods) (recent_in s m)) refl refl
      (ap (bounded_count t m.past.reached) delayed ∙ (same_within s m.past.reached (max (with_activation s pods) (recent_in s m))).2) (omega (arith, recent)) rest.1

  -- ---- more asked for by the average that the count goes by

  module _ (pods : ℕ) (average : Frac) (bears : pods ≡ pods_for s average) (some : 0 < d.bounded) (equal : d.delayed ≡ d.bounded) (counts : d.bounded ≡ count_for s d.ready pods)
      (raises : Raises s m d.ready average) (stable : d.panicking ≡ false → pods ≡ d.dspc) where
    rise_changes : (t : Spec) → t.panic_threshold ≡ s.panic_threshold → t.stable_s ≡ s.stable_s → t.max ≡ s.max → has_above s d ≡ true → pods_for s average ≤ pods_for t average
        → d.bounded < count_for t d.ready (pods_for t average) → Changes s t m
    rise_changes t threshold window most above more asks =
        let both = and_is (nat_lt d.bounded pods_most) (s.max == 0 || nat_lt d.bounded s.max) above in
        let few : d.bounded < pods_most = is_less d.bounded pods_most both.0 in
        let room : (t.max == 0 || nat_lt (bounded_by s s m) t.max) ≡ true = rw (most, sym is.bounded) both.1 in
        let least = raises t threshold window more in
        let delayed = delayed_by_is s t m in
        let rises = more_rises t m.past.reached (delayed_by s t m) (bounded_by s s m) (omega (arith, least, delayed, asks, is.bounded)) (omega (arith, few, is.bounded)) room in
        more_changes s t m (omega (arith, some, is.bounded)) rises

    activation_changes : has_above s d ≡ true → is_raised s d.ready pods ≡ true → Changes s (record s { activation = d.bounded + 1 }) m
    activation_changes above raised =
        let same = same_pods s average (d.bounded + 1) s.up s.down in
        let least = activation_raises s d.ready pods (d.bounded + 1) raised in
        let asks : d.bounded < count_for (record s { activation = d.bounded + 1 }) d.ready pods = omega (arith, least) in
        rise_changes (record s { activation = d.bounded + 1 }) refl refl refl above (omega (arith, same)) (rw (same, sym bears) asks)

    up_changes : has_above s d ≡ true → is_raised s d.ready pods ≡ false → max_scale_up s d.ready < pods → Changes s (record s { up = most_rate }) m
    up_changes above low cut =
        let both = and_is (nat_lt d.bounded pods_most) (s.max == 0 || nat_lt d.bounded s.max) above in
        let few : d.bounded < pods_most = is_less d.bounded pods_most both.0 in
        let same = same_pods s average s.activation most_rate s.down in
        let asks = up_raises s d.ready pods d.bounded low counts few cut in
        rise_changes (record s { up = most_rate }) refl refl refl above (omega (arith, same)) (rw (same, sym bears) asks)

    kept_changes : has_above s d ≡ true → is_raised s d.ready pods ≡ false → is_kept s d.ready pods ≡ true → Changes s (with_setting s (kept s d).setting) m
    kept_changes above low held = by (nat_lt (max_scale_down s d.ready) (most_down d.ready)) refl
      where
        by : (b : Bool) → nat_lt (max_scale_down s d.ready) (most_down d.ready) ≡ b
            → Changes s (with_setting s (cond b (by_rule (setting.DownRate least_rate)) (record { setting = one_more d; why = why.DownRateHolds })).setting) m
        by true e =
            let same = same_pods s average s.activation s.up least_rate in
            let asks = down_raises s d.ready pods d.bounded range low counts (is_less pods (max_scale_down s d.ready) held) (is_less (max_scale_down s d.ready) (most_down d.ready) e) in
            rise_changes (record s { down = least_rate }) refl refl refl above (omega (arith, same)) (rw (same, sym bears) asks)
        by false e = above_changes s m d is range order recents above some (omega (arith, equal))

    borne_changes : has_above s d ≡ true → is_raised s d.ready pods ≡ false → max_scale_down s d.ready ≤ pods → pods < max_scale_up s d.ready → Changes s (with_setting s (borne d pods average).setting) m
    borne_changes above low down up = by (bears_less pods average) refl
      where
        by : (b : Bool) → bears_less pods average ≡ b
            → Changes s (with_setting s (cond {A = Change} b (record { setting = setting.Target; why = why.OrLoad }) (record { setting = one_more d; why = why.NoTarget })).setting) m
        by true e =
            let more = target_more s pods average e in
            let asks = target_raises s d.ready pods (pods_for (with_setting s setting.Target) average) d.bounded low counts down up more in
            rise_changes (with_setting s setting.Target) refl refl refl above (omega (arith, bears, more)) asks
        by false e = above_changes s m d is range order recents above some (omega (arith, equal))

    asks_more_changes : has_above s d ≡ true → is_raised s d.ready pods ≡ false → Changes s (with_setting s (asks_more s d pods average).setting) m
    asks_more_changes above low = by (nat_lt (max_scale_up s d.ready) pods) refl (is_kept s d.ready pods) refl (nat_lt pods (max_scale_up s d.ready)) refl
      where
        by : (u : Bool) → nat_lt (max_scale_up s d.ready) pods ≡ u → (k : Bool) → is_kept s d.ready pods ≡ k → (l : Bool) → nat_lt pods (max_scale_up s d.ready) ≡ l
            → Changes s (with_setting s (cond u (by_rule setting.UpRate) (cond k (kept s d) (cond l (borne d pods average) (record { setting = one_more d; why = why.UpRateHolds })))).setting) m
        by true e k f l g = up_changes above low (is_less (max_scale_up s d.ready) pods e)
        by false e true f l g = kept_changes above low f
        by false e false f true g = borne_changes above low (not_less pods (max_scale_down s d.ready) f) (is_less pods (max_scale_up s d.ready) g)
        by false e false f false g = above_changes s m d is range order recents above some (omega (arith, equal))

    by_average_changes : Changes s (with_setting s (by_average s (before_of s m recents) d pods average).setting) m
    by_average_changes = by (has_above s d) refl (is_raised s d.ready pods) refl (hangs_on_down s (before_of s m recents) d pods) refl
      where
        by : (a : Bool) → has_above s d ≡ a → (r : Bool) → is_raised s d.ready pods ≡ r → (h : Bool) → hangs_on_down s (before_of s m recents) d pods ≡ h
            → Changes s (with_setting s (cond (a && r) (by_rule (setting.Activation (d.bounded + 1))) (cond h (by_rule (setting.DownRate most_rate))
            (cond a (asks_more s d pods average) (by_bound s (before_of s m recents) d (most_why d))))).setting) m
        by true e true f h g = activation_changes e f
        by true e false f true g = down_changes pods stable g
        by true e false f false g = asks_more_changes e f
        by false e r f true g = down_changes pods stable g
        by false e r f false g = bound_changes s m d is range order recents (most_why d) some equal

  -- ---- by the stable average, by that of panic, or by an earlier decision

  counts_changes : 0 < d.bounded → d.delayed ≡ d.bounded → d.undelayed ≡ d.bounded → Changes s (with_setting s (by_counts s (before_of s m recents) d).setting) m
  counts_changes some equal now = by (d.undelayed == stable_count s d) refl (d.panicking && (d.undelayed == count_for s d.ready d.dppc)) refl
    where
      of_panic : (d.panicking && (d.undelayed == count_for s d.ready d.dppc)) ≡ true → Changes s (with_setting s (by_average s (before_of s m recents) d d.dppc d.panic).setting) m
      of_panic f =
          let both = and_is d.panicking (d.undelayed == count_for s d.ready d.dppc) f in
          by_average_changes d.dppc d.panic (is.dppc ∙ sym (ap (pods_for s) is.panic)) some equal (sym now ∙ same_is d.undelayed (count_for s d.ready d.dppc) both.1)
          (rw (is.ready, is.panic) (panic_raises s m (sym is.panicking ∙ both.0))) (λ calm. absurd (let g : false ≡ true = sym calm ∙ both.0 in cc))

      by : (a : Bool) → (d.undelayed == stable_count s d) ≡ a → (p : Bool) → (d.panicking && (d.undelayed == count_for s d.ready d.dppc)) ≡ p
          → Changes s (with_setting s (cond a (by_average s (before_of s m recents) d d.dspc d.stable) (cond p (by_average s (before_of s m recents) d d.dppc d.panic) (by_earlier s (before_of s m recents) d))).setting) m
      by true e p f =
          by_average_changes d.dspc d.stable (is.dspc ∙ sym (ap (pods_for s) is.stable)) some equal (sym now ∙ same_is d.undelayed (stable_count s d) e)
          (rw (is.ready, is.stable) (stable_raises s m)) (λ calm. refl)
      by false e true f = of_panic f
      by false e false f = earlier_changes s m d is range order recents some equal

  pub asked_changes : 0 < d.bounded → d.delayed ≡ d.bounded → Changes s (with_setting s (asked s (before_of s m recents) d).setting) m
  asked_changes some equal =
      by (nat_lt d.undelayed d.delayed) refl (lets_fewer s (before_of s m recents) d d.undelayed) refl (begins_panic (before_of s m recents) d && hangs_on_panic s (before_of s m recents) d) refl
    where
      now : nat_lt d.undelayed d.delayed ≡ false → d.undelayed ≡ d.bounded
      now e =
          let parts = delayed_by_is s s m in
          let least : d.undelayed ≤ d.delayed = omega (arith, parts, is.undelayed, is.delayed) in
          let most : d.delayed ≤ d.undelayed = not_less d.undelayed d.delayed e in
          omega (arith, least, most, equal)

      by : (l : Bool) → nat_lt d.undelayed d.delayed ≡ l → (f : Bool) → lets_fewer s (before_of s m recents) d d.undelayed ≡ f
          → (p : Bool) → (begins_panic (before_of s m recents) d && hangs_on_panic s (before_of s m recents) d) ≡ p
          → Changes s (with_setting s (cond l (cond f (by_rule setting.Delay) (by_bound s (before_of s m recents) d (least_why s (before_of s m recents) d)))
          (cond p (by_rule setting.Panic) (by_counts s (before_of s m recents) d))).setting) m
      by true e true f p g = delay_changes f
      by true e false f p g = bound_changes s m d is range order recents (least_why s (before_of s m recents) d) some equal
      by false e h f true g = panic_changes g
      by false e h f false g = counts_changes some equal (now e)
