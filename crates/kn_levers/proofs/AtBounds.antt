-- Where a bound holds or stands in for a rule, what is named changes the decision.
use Rattle.std.proofs.Common.{◌≡◌, refl, sym, ◌∙◌, ℕ, ◌+◌, ◌-◌, ◌<◌, ◌≤◌, Bool, true, false, not, cond, ◌&&◌, ◌||◌, arith, lit<}
use Rattle.std.specs.Prelude.{◌==◌, nat_lt, nat_le, max}
use Rattle.kn_event.specs.Revision.{AreInRange}
use Rattle.kn_event.specs.declared.entry.Decision.{Decision}
use Rattle.kn_event.specs.declared.revision.Spec.{Spec}
use Rattle.kn_scaling.specs.Zero.{lower_bound, pods_most}
use Rattle.kn_levers.specs.declared.lever.Setting.TheVariants as setting
use Rattle.kn_levers.specs.declared.lever.Why.{Why}
use Rattle.kn_levers.specs.declared.lever.Why.TheVariants as why
use Rattle.kn_levers.specs.Laws.{Changes, IsInOrder, Moment, before_of, bounded_by, delayed_by}
use Rattle.kn_levers.specs.Levers.{both_bounds, by_bound, by_earlier, by_rule, capped, has_above, has_below, keeps_one, least, one_more, raised}
use Rattle.kn_levers.specs.Settings.{with_setting}
use Rattle.kn_levers.proofs.Answered.{and_is, is_false, is_less, no_more, not_less, not_same, other_fewer, same_is, under_most}
use Rattle.kn_levers.proofs.Bounded.{at_most, bounded_most, bounded_within, initial_least, lower_fits, lower_most, lower_within, min_least, more_rises, raised_is, sinks}
use Rattle.kn_levers.proofs.Decided.{IsDecidedIn, fewer_changes, low_changes, lower_changes, more_changes, same_delayed}

-- the lower bound without min-scale and the initial scale of s
same_lower : (s : Spec) (reached : Bool) (most : ℕ) → lower_bound (record s { max = most }) reached ≡ lower_bound s reached
unfolding lower_bound
same_lower s reached most = refl

reached_lower : (s : Spec) (reached : Bool) → reached ≡ true → lower_bound s reached ≡ s.min
unfolding lower_bound
reached_lower s reached was = rw was refl

never_lower : (s : Spec) (reached : Bool) → reached ≡ false → lower_bound s reached ≡ max s.min s.initial
unfolding lower_bound
never_lower s reached never = rw never refl

-- never reached, and fewer than 500
unreached : (reached : Bool) (n : ℕ) → (not reached && nat_lt n pods_most) ≡ true → (reached ≡ false) × (n < pods_most)
unreached reached n g =
    let both = and_is (not reached) (nat_lt n pods_most) g in
    (is_false reached both.0, is_less n pods_most both.1)

module _ (s : Spec) (m : Moment) (d : Decision) (is : IsDecidedIn s m d) (range : AreInRange s) (order : IsInOrder m) (recents : ℕ) where
  most : d.bounded ≤ pods_most
  most = let few = bounded_most s m.past.reached (delayed_by s s m) in omega (arith, few, is.bounded)

  -- ---- one pod more or fewer

  pub above_changes : has_above s d ≡ true → 0 < d.bounded → d.delayed ≤ d.bounded → Changes s (with_setting s (one_more d)) m
  above_changes above some asked =
      let few = is_less d.bounded pods_most (and_is (nat_lt d.bounded pods_most) (s.max == 0 || nat_lt d.bounded s.max) above).0 in
      let low = min_least (record s { min = d.bounded + 1 }) m.past.reached in
      low_changes s (record s { min = d.bounded + 1 }) m (same_delayed s m (d.bounded + 1) s.max s.initial)
      (omega (arith, is.bounded, some)) (omega (arith, is.bounded, few)) (omega (arith, is.bounded, is.delayed, asked)) (omega (arith, is.bounded, low))

  initial_changes : m.past.reached ≡ false → d.bounded < pods_most → 0 < d.bounded → d.delayed ≤ d.bounded → Changes s (with_setting s (setting.Initial (d.bounded + 1))) m
  initial_changes never few some asked =
      let low = initial_least (record s { initial = d.bounded + 1 }) m.past.reached never in
      low_changes s (record s { initial = d.bounded + 1 }) m (same_delayed s m s.min s.max (d.bounded + 1))
      (omega (arith, is.bounded, some)) (omega (arith, is.bounded, few)) (omega (arith, is.bounded, is.delayed, asked)) (omega (arith, is.bounded, low))

  -- as many are asked for as are wanted, or more: no lower bound holds
  fits : d.bounded ≤ d.delayed → lower_bound s m.past.reached ≤ delayed_by s s m
  fits more = lower_fits s m.past.reached (delayed_by s s m) (lower_most s m.past.reached range) (omega (arith, is.bounded, is.delayed, more))

  max_changes : (k : ℕ) → 0 < k → k < d.bounded → d.bounded ≤ d.delayed → Changes s (record s { max = k }) m
  max_changes k some fewer more =
      let t : Spec = record s { max = k } in
      let same = same_delayed s m s.min k s.initial in
      let low = fits more in
      let lower = same_lower s m.past.reached k in
      let few = most in
      let at = at_most t m.past.reached (delayed_by s t m) k refl some (omega (arith, few, fewer)) (omega (arith, same, low, lower)) (omega (arith, same, is.delayed, more, fewer)) in
      fewer_changes s t m (omega (arith, at, some)) (omega (arith, at, is.bounded, fewer))

  pub below_changes : has_below s d ≡ true → d.bounded ≤ d.delayed → Changes s (record s { max = d.bounded - 1 }) m
  below_changes below more =
      let two = no_more 2 d.bounded (and_is (nat_le 2 d.bounded) (nat_lt s.min d.bounded) below).0 in
      max_changes (d.bounded - 1) (omega (arith, two)) (omega (arith, two)) more

  -- ---- both bounds

  -- below 500 as many asked for
  pub both_changes : 0 < d.bounded → d.bounded ≤ d.delayed → (d.bounded < pods_most → d.delayed ≤ d.bounded) → Changes s (with_setting s (both_bounds s (before_of s m recents) d)) m
  both_changes some more equal = by (nat_lt d.bounded pods_most) refl (m.past.reached || nat_lt s.initial pods_most) refl
    where
      over : nat_lt d.bounded pods_most ≡ true → Changes s (record s { min = d.bounded + 1; max = 0 }) m
      over e =
          let few = is_less d.bounded pods_most e in
          let asked = equal few in
          let low = min_least (record s { min = d.bounded + 1; max = 0 }) m.past.reached in
          low_changes s (record s { min = d.bounded + 1; max = 0 }) m (same_delayed s m (d.bounded + 1) 0 s.initial)
          (omega (arith, is.bounded, some)) (omega (arith, is.bounded, few)) (omega (arith, is.bounded, is.delayed, asked)) (omega (arith, is.bounded, low))

      -- of 500: each bound that holds at one fewer
      under : (initial : ℕ) → nat_lt d.bounded pods_most ≡ false → (m.past.reached ≡ false → initial ≤ pods_most - 1)
          → Changes s (record s { min = pods_most - 1; max = pods_most - 1; initial = initial }) m
      under initial e less =
          let t : Spec = record s { min = pods_most - 1; max = pods_most - 1; initial = initial } in
          let many = not_less d.bounded pods_most e in
          let same = same_delayed s m (pods_most - 1) (pods_most - 1) initial in
          let lower = lower_within t m.past.reached (pods_most - 1) (omega arith) less in
          let at = at_most t m.past.reached (delayed_by s t m) (pods_most - 1) refl (lit< tt) (omega arith) (omega (arith, same, lower, is.delayed, more, many)) (omega (arith, same, is.delayed, more, many)) in
          fewer_changes s t m (omega (arith, at)) (omega (arith, at, is.bounded, many))

      first : (m.past.reached || nat_lt s.initial pods_most) ≡ true → m.past.reached ≡ false → s.initial ≤ pods_most - 1
      first f never = let few : nat_lt s.initial pods_most ≡ true = rw never at f in let less = is_less s.initial pods_most few in omega (arith, less)

      by : (c : Bool) → nat_lt d.bounded pods_most ≡ c → (i : Bool) → (m.past.reached || nat_lt s.initial pods_most) ≡ i
          → Changes s (with_setting s (cond c (setting.MinAndMax (d.bounded + 1) 0) (cond i (setting.MinAndMax (pods_most - 1) (pods_most - 1)) (setting.Bounds (pods_most - 1))))) m
      by true e i f = over e
      by false e true f = under s.initial e (first f)
      by false e false f = under (pods_most - 1) e (λ never. omega arith)

  -- ---- a bound in place of a rule

  pub bound_changes : (w : Why) → 0 < d.bounded → d.delayed ≡ d.bounded → Changes s (with_setting s (by_bound s (before_of s m recents) d w).setting) m
  bound_changes w some equal = by (has_above s d) refl (has_below s d) refl (not m.past.reached && nat_lt d.bounded pods_most) refl
    where
      by : (a : Bool) → has_above s d ≡ a → (c : Bool) → has_below s d ≡ c → (i : Bool) → (not m.past.reached && nat_lt d.bounded pods_most) ≡ i
          → Changes s (with_setting s (cond a (one_more d) (cond c (setting.Max (d.bounded - 1)) (cond i (setting.Initial (d.bounded + 1)) (both_bounds s (before_of s m recents) d))))) m
      by true e c f i g = above_changes e some (omega (arith, equal))
      by false e true f i g = below_changes f (omega (arith, equal))
      by false e false f true g = let both = unreached m.past.reached d.bounded g in initial_changes both.0 both.1 some (omega (arith, equal))
      by false e false f false g = both_changes some (omega (arith, equal)) (λ few. omega (arith, equal))

  -- what an earlier decision of the panic asked for
  pub earlier_changes : 0 < d.bounded → d.delayed ≡ d.bounded → Changes s (with_setting s (by_earlier s (before_of s m recents) d).setting) m
  earlier_changes some equal = by (has_below s d) refl
    where
      by : (c : Bool) → has_below s d ≡ c
          → Changes s (with_setting s (cond c (record { setting = setting.Max (d.bounded - 1); why = why.PanicKeeps }) (by_bound s (before_of s m recents) d why.PanicKeeps)).setting) m
      by true f = below_changes f (omega (arith, equal))
      by false f = bound_changes why.PanicKeeps some equal

  -- ---- max-scale or 500 holds fewer than are asked for

  pub capped_changes : 0 < d.bounded → d.bounded < d.delayed → Changes s (with_setting s (capped s (before_of s m recents) d).setting) m
  capped_changes some more = by (nat_lt d.bounded pods_most) refl (nat_lt s.min pods_most)
    where
      free : nat_lt d.bounded pods_most ≡ true → Changes s (record s { max = 0 }) m
      free e =
          let few = is_less d.bounded pods_most e in
          let same = same_delayed s m s.min 0 s.initial in
          let rises = more_rises (record s { max = 0 }) m.past.reached (delayed_by s (record s { max = 0 }) m) (bounded_by s s m)
          (omega (arith, same, is.delayed, is.bounded, more)) (omega (arith, is.bounded, few)) refl in
          more_changes s (record s { max = 0 }) m (omega (arith, is.bounded, some)) rises

      by : (c : Bool) → nat_lt d.bounded pods_most ≡ c → (i : Bool)
          → Changes s (with_setting s (cond c (by_rule (setting.Max 0)) (cond i (record { setting = setting.Max (pods_most - 1); why = why.Ceiling })
          (record { setting = both_bounds s (before_of s m recents) d; why = why.Ceiling }))).setting) m
      by true e i = free e
      by false e true = let many = not_less d.bounded pods_most e in max_changes (pods_most - 1) (lit< tt) (omega (arith, many)) (omega (arith, more))
      by false e false = let many = not_less d.bounded pods_most e in both_changes some (omega (arith, more)) (λ few. absurd (omega (arith, many, few)))

  -- ---- a lower bound holds more than are asked for

  low_is : d.delayed < d.bounded → d.bounded ≡ lower_bound s m.past.reached
  low_is raised = is.bounded ∙ raised_is s m.past.reached (delayed_by s s m) (lower_most s m.past.reached range) (omega (arith, is.bounded, is.delayed, raised))

  -- lower bounds of so many, fewer
  sunk_changes : (least initial k : ℕ) → lower_bound (record s { min = least; initial = initial }) m.past.reached ≡ k → d.delayed ≤ k → 0 < k → k < d.bounded
      → Changes s (record s { min = least; initial = initial }) m
  sunk_changes least initial k low asked some fewer =
      let t : Spec = record s { min = least; initial = initial } in
      let same = same_delayed s m least s.max initial in
      let both = sinks t m.past.reached (delayed_by s t m) k low (omega (arith, same, is.delayed, asked)) some in
      fewer_changes s t m both.0 (omega (arith, both.1, is.bounded, fewer))

  -- or of none
  none_changes : (least initial : ℕ) → lower_bound (record s { min = least; initial = initial }) m.past.reached ≡ 0 → d.delayed ≡ 0 → d.bounded ≡ 1
      → ((d.bounded == 1) && keeps_one s (before_of s m recents)) ≡ false → Changes s (record s { min = least; initial = initial }) m
  none_changes least initial low asked one kept =
      let t : Spec = record s { min = least; initial = initial } in
      let same = same_delayed s m least s.max initial in
      let within = bounded_within t m.past.reached (delayed_by s t m) in
      let none : bounded_by s t m ≡ 0 = omega (arith, within, low, same, is.delayed, asked) in
      lower_changes s t m order refl refl (omega (arith, none, is.bounded, one)) (rw (none, sym is.bounded, kept) refl)

  -- one fewer by min-scale, where the initial scale doesn't hold as many
  down_lower : 0 < d.bounded → (not m.past.reached && nat_lt d.bounded pods_most) ≡ false → (not m.past.reached && (s.initial == d.bounded)) ≡ false
      → lower_bound (record s { min = d.bounded - 1 }) m.past.reached ≡ d.bounded - 1
  down_lower some g j = by m.past.reached refl
    where
      by : (b : Bool) → m.past.reached ≡ b → lower_bound (record s { min = d.bounded - 1 }) m.past.reached ≡ d.bounded - 1
      by true h = reached_lower (record s { min = d.bounded - 1 }) m.past.reached h
      by false h =
          let few : nat_lt d.bounded pods_most ≡ false = rw h at g in
          let other : (s.initial == d.bounded) ≡ false = rw h at j in
          let initial = range.initial in
          let many = not_less d.bounded pods_most few in
          let less = other_fewer s.initial d.bounded other (omega (arith, initial, many)) in
          let lower = never_lower (record s { min = d.bounded - 1 }) m.past.reached h in
          omega (arith, lower, less)

  down_changes : 0 < d.bounded → d.delayed < d.bounded → (not m.past.reached && nat_lt d.bounded pods_most) ≡ false → (not m.past.reached && (s.initial == d.bounded)) ≡ false
      → ((d.bounded == 1) && keeps_one s (before_of s m recents)) ≡ false → Changes s (record s { min = d.bounded - 1 }) m
  down_changes some less g j kept = by (nat_lt 1 d.bounded) refl
    where
      by : (b : Bool) → nat_lt 1 d.bounded ≡ b → Changes s (record s { min = d.bounded - 1 }) m
      by true e =
          let two = is_less 1 d.bounded e in
          sunk_changes (d.bounded - 1) s.initial (d.bounded - 1) (down_lower some g j) (omega (arith, less)) (omega (arith, two)) (omega (arith, some))
      by false e =
          let few = not_less 1 d.bounded e in
          let one : d.bounded ≡ 1 = omega (arith, few, some) in
          let lower = down_lower some g j in
          none_changes (d.bounded - 1) s.initial (omega (arith, lower, one)) (omega (arith, less, one)) one kept

  two_changes : d.delayed < d.bounded → (d.bounded == 1) ≡ true → Changes s (record s { min = 2; max = 2 }) m
  two_changes less e =
      let one = same_is d.bounded 1 e in
      let low = min_least (record s { min = 2; max = 2 }) m.past.reached in
      low_changes s (record s { min = 2; max = 2 }) m (same_delayed s m 2 2 s.initial)
      (omega (arith, is.bounded, one)) (omega (arith, is.bounded, one)) (omega (arith, is.bounded, is.delayed, less)) (omega (arith, is.bounded, one, low))

  least_changes : 0 < d.bounded → d.delayed < d.bounded → Changes s (with_setting s (least s (before_of s m recents) d)) m
  least_changes some less =
      by (has_above s d) refl (not m.past.reached && nat_lt d.bounded pods_most) refl (not m.past.reached && (s.initial == d.bounded)) refl
      ((d.bounded == 1) && keeps_one s (before_of s m recents)) refl
    where
      both_fewer : (not m.past.reached && nat_lt d.bounded pods_most) ≡ false → (not m.past.reached && (s.initial == d.bounded)) ≡ true
          → Changes s (record s { min = d.bounded - 1; initial = d.bounded - 1 }) m
      both_fewer g j =
          let both = and_is (not m.past.reached) (s.initial == d.bounded) j in
          let never = is_false m.past.reached both.0 in
          let few : nat_lt d.bounded pods_most ≡ false = rw never at g in
          let many = not_less d.bounded pods_most few in
          let lower = never_lower (record s { min = d.bounded - 1; initial = d.bounded - 1 }) m.past.reached never in
          sunk_changes (d.bounded - 1) (d.bounded - 1) (d.bounded - 1) (omega (arith, lower)) (omega (arith, less)) (omega (arith, many)) (omega (arith, some))

      by : (a : Bool) → has_above s d ≡ a → (i : Bool) → (not m.past.reached && nat_lt d.bounded pods_most) ≡ i
          → (j : Bool) → (not m.past.reached && (s.initial == d.bounded)) ≡ j → (o : Bool) → ((d.bounded == 1) && keeps_one s (before_of s m recents)) ≡ o
          → Changes s (with_setting s (cond a (one_more d) (cond i (setting.Initial (d.bounded + 1)) (cond j (setting.MinAndInitial (d.bounded - 1))
          (cond o (setting.MinAndMax 2 2) (setting.Min (d.bounded - 1))))))) m
      by true e i g j f o h = above_changes e some (omega (arith, less))
      by false e true g j f o h = let both = unreached m.past.reached d.bounded g in initial_changes both.0 both.1 some (omega (arith, less))
      by false e false g true f o h = both_fewer g f
      by false e false g false f true h = two_changes less (and_is (d.bounded == 1) (keeps_one s (before_of s m recents)) h).0
      by false e false g false f false h = down_changes some less g f h

  -- the initial scale's: it was never reached
  never_reached : d.delayed < d.bounded → (d.bounded == s.min) ≡ false → m.past.reached ≡ false
  never_reached less e = by m.past.reached refl
    where
      by : (b : Bool) → m.past.reached ≡ b → b ≡ false
      by false h = refl
      by true h = absurd (let low = low_is less in let lowest = reached_lower s m.past.reached h in not_same d.bounded s.min e (low ∙ lowest))

  initial_fewer : d.delayed < d.bounded → (d.bounded == s.min) ≡ false → nat_lt d.bounded pods_most ≡ false → Changes s (record s { initial = pods_most - 1 }) m
  initial_fewer less e f =
      let many = not_less d.bounded pods_most f in
      let few = most in
      let lowest = range.min in
      let other = under_most s.min d.bounded pods_most e lowest few many in
      let lower = never_lower (record s { initial = pods_most - 1 }) m.past.reached (never_reached less e) in
      sunk_changes s.min (pods_most - 1) (pods_most - 1) (omega (arith, lower, other)) (omega (arith, less, few)) (lit< tt) (omega (arith, many))

  pub raised_changes : 0 < d.bounded → d.delayed < d.bounded → Changes s (with_setting s (raised s (before_of s m recents) d).setting) m
  raised_changes some less = by (d.bounded == s.min) refl (nat_lt d.bounded pods_most) refl
    where
      by : (b : Bool) → (d.bounded == s.min) ≡ b → (c : Bool) → nat_lt d.bounded pods_most ≡ c
          → Changes s (with_setting s (cond b (by_rule (least s (before_of s m recents) d)) (cond c (by_rule (setting.Initial (d.bounded + 1))) (by_rule (setting.Initial (pods_most - 1))))).setting) m
      by true e c f = least_changes some less
      by false e true f = initial_changes (never_reached less e) (is_less d.bounded pods_most f) some (omega (arith, less))
      by false e false f = initial_fewer less e f
