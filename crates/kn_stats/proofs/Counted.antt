-- The totals: one change more, and time that passes.
use Rattle.std.proofs.Common.{◌≡◌, refl, sym, ap, subst, ◌∙◌, ℕ, ◌+◌, ◌-◌, ◌≤◌, ◌<◌, Bool, true, false, cond, List, [], ◌∷◌, ◌++◌, min, arith}
use Rattle.std.specs.Prelude.{nat_lt, if◌then◌else◌}
use Rattle.kn_event.specs.declared.revision.Metric.{Metric}
use Rattle.kn_scaling.specs.Average.{second_of}
use Rattle.kn_stats.specs.declared.change.Change.{Change}
use Rattle.kn_stats.specs.declared.change.Change.TheVariants as change
use Rattle.kn_stats.specs.declared.tally.Tally.{Tally}
use Rattle.kn_stats.specs.Changes.{TimedChange, arrived_by, count_of, counted_most, ends_admitted, ends_directed, ends_waiting, is_admitted, is_directed, is_start, timed}
use Rattle.kn_stats.specs.Pods.{IsSmall, anew_if, tally_after}
use Rattle.kn_stats.specs.Totals.{CanCount, IsBounded, IsTally, IsTotalsOf, TotalsState, counted, left_of, live_of, opened_totals, passed, passed_by, waiting_after}
use Rattle.kn_stats.proofs.Allowed.{apart_admitted, apart_directed, apart_starts, apart_waiting, few_admitted, few_directed, some_admitted, some_directed, some_waiting}
use Rattle.kn_stats.proofs.Bounds.{count-anew, left_inside, small_after, small_anew, small_later, small_none}
use Rattle.kn_stats.proofs.Sums.{arrived-push, by-later, by-push, count-push, past-arrived, tally_anew, tally_none, tally_push}

pub left_most : (t : ℕ) → left_of t ≤ 1000
left_most t = omega arith

-- ---- nothing yet

pub totals_none : (m : Metric) (start : ℕ) → IsTotalsOf (opened_totals m start) []
unfolding count_of arrived_by
totals_none m start = record {
  times = tt;
  waiting = refl;
  activator = tally_none is_admitted ends_admitted (second_of start);
  direct = tally_none is_directed ends_directed (second_of start);
  arrived = refl;
}

pub bounded_none : (m : Metric) (start : ℕ) → IsBounded (opened_totals m start)
bounded_none m start = record {
  live = omega arith;
  waiting = omega arith;
  activator = small_none (left_of start) (left_most start);
  direct = small_none (left_of start) (left_most start);
  arrived = omega arith;
}

-- ---- one change more

waiting-push : (b e : Bool) (n ends begins : ℕ) → (b ≡ true → e ≡ false) → (e ≡ true → 0 < n) → n + ends ≡ begins → (if b then n + 1 else (if e then n - 1 else n)) + (ends + cond e 1 0) ≡ begins + cond b 1 0
waiting-push true true n ends begins apart some is = absurd (let h = apart refl in cc)
waiting-push true false n ends begins apart some is = omega (arith, is)
waiting-push false true n ends begins apart some is = let there = some refl in omega (arith, is, there)
waiting-push false false n ends begins apart some is = omega (arith, is)

arrived-next : (b : Bool) (n m : ℕ) → n ≡ min counted_most m → (if b then min counted_most (n + 1) else n) ≡ min counted_most (m + cond b 1 0)
arrived-next true n m h = omega (arith, h)
arrived-next false n m h = omega (arith, h)

arrived_few : (b : Bool) (n : ℕ) → n ≤ counted_most → (if b then min counted_most (n + 1) else n) ≤ counted_most
arrived_few true n h = omega arith
arrived_few false n h = h

count_most : (b e : Bool) (m : ℕ) (t : Tally) → (tally_after b e m t).count ≤ t.count + cond b 1 0
count_most true e m t = omega arith
count_most false true m t = omega arith
count_most false false m t = omega arith

live_few : (b d : Bool) (n : ℕ) → (b ≡ true → n < 20000) → (d ≡ true → n < 20000) → (b ≡ true → d ≡ false) → n ≤ 20000 → n + cond b 1 0 + cond d 1 0 ≤ 20000
live_few true true n f g apart h = absurd (let e = apart refl in cc)
live_few true false n f g apart h = let few = f refl in omega (arith, few)
live_few false true n f g apart h = let few = g refl in omega (arith, few)
live_few false false n f g apart h = omega (arith, h)

module _ (t : TotalsState) (bounded : IsBounded t) where
  waiting_most : (c : Change) → CanCount t c → waiting_after c t.waiting ≤ (tally_after (is_admitted c) (ends_admitted c) (left_of t.time) t.activator).count
  waiting_most change.Admitted can = omega (arith, bounded.waiting)
  waiting_most (change.Assigned p) can = omega (arith, bounded.waiting)
  waiting_most (change.Directed p) can = bounded.waiting
  waiting_most change.EndedHeld can = omega (arith, bounded.waiting, can)
  waiting_most (change.EndedAt p true) can = omega (arith, can)
  waiting_most (change.EndedAt p false) can = bounded.waiting

  module _ (c : Change) (can : CanCount t c) where
    pub totals_counted : (cs : List TimedChange) → IsTotalsOf t cs → IsTotalsOf (counted c t) (cs ++ timed t.time c ∷ [])
    totals_counted cs is = record {
      times = by-push t.time cs (timed t.time c) is.times (omega arith);
      waiting =
          let a = count-push is_admitted cs (timed t.time c) in
          let b = count-push ends_waiting cs (timed t.time c) in
          let w = waiting-push (is_admitted c) (ends_waiting c) t.waiting (count_of ends_waiting cs) (count_of is_admitted cs) (apart_waiting c) (some_waiting t bounded c can) is.waiting in
          omega (arith, a, b, w);
      activator = tally_push is_admitted ends_admitted t.time c t.activator cs (is_admitted c) (ends_admitted c) refl refl (apart_admitted c)
          (λ h. let some = some_admitted t bounded c can h in (some, left_inside (left_of t.time) t.activator bounded.activator some)) is.activator;
      direct = tally_push is_directed ends_directed t.time c t.direct cs (is_directed c) (ends_directed c) refl refl (apart_directed c)
          (λ h. let some = some_directed t bounded c can h in (some, left_inside (left_of t.time) t.direct bounded.direct some)) is.direct;
      arrived =
          let a = arrived-push cs t.time c in
          let n = arrived-next (is_start c) t.arrived (arrived_by cs (second_of t.time)) is.arrived in
          n ∙ ap (min counted_most) (sym a);
    }

    live_after : live_of (counted c t) ≤ 20000
    live_after =
        let a = count_most (is_admitted c) (ends_admitted c) (left_of t.time) t.activator in
        let d = count_most (is_directed c) (ends_directed c) (left_of t.time) t.direct in
        let few = live_few (is_admitted c) (is_directed c) (live_of t) (few_admitted t bounded c can) (few_directed t bounded c can) (apart_starts c) bounded.live in
        omega (arith, a, d, few)

    pub bounded_counted : IsBounded (counted c t)
    bounded_counted = record {
      live = live_after;
      waiting = waiting_most c can;
      activator = small_after (is_admitted c) (ends_admitted c) (left_of t.time) t.activator (λ h. let few = few_admitted t bounded c can h in omega (arith, few)) (some_admitted t bounded c can) bounded.activator;
      direct = small_after (is_directed c) (ends_directed c) (left_of t.time) t.direct (λ h. let few = few_directed t bounded c can h in omega (arith, few)) (some_directed t bounded c can) bounded.direct;
      arrived = arrived_few (is_start c) t.arrived bounded.arrived;
    }

-- ---- time

module _ (t : TotalsState) (to : ℕ) (later : t.time ≤ to) where
  totals_new : (cs : List TimedChange) → second_of t.time < second_of to → IsTotalsOf t cs → IsTotalsOf (passed_by true to t) cs
  totals_new cs new is = record {
    times = by-later t.time to cs later is.times;
    waiting = is.waiting;
    activator = tally_anew is_admitted ends_admitted (second_of t.time) (second_of to) t.time t.activator cs new is.times is.activator;
    direct = tally_anew is_directed ends_directed (second_of t.time) (second_of to) t.time t.direct cs new is.times is.direct;
    arrived = let none = past-arrived (second_of to) t.time cs new is.times in omega (arith, none);
  }

  totals_same : (cs : List TimedChange) → second_of t.time ≡ second_of to → IsTotalsOf t cs → IsTotalsOf (passed_by false to t) cs
  totals_same cs same is = record {
    times = by-later t.time to cs later is.times;
    waiting = is.waiting;
    activator = subst (λ n. IsTally is_admitted ends_admitted n t.activator cs) same is.activator;
    direct = subst (λ n. IsTally is_directed ends_directed n t.direct cs) same is.direct;
    arrived = is.arrived ∙ ap (λ n. min counted_most (arrived_by cs n)) same;
  }

  pub totals_passed : (cs : List TimedChange) → IsTotalsOf t cs → IsTotalsOf (passed to t) cs
  totals_passed cs is = by (nat_lt (second_of t.time) (second_of to)) refl
    where
      by : (b : Bool) → nat_lt (second_of t.time) (second_of to) ≡ b → IsTotalsOf (passed_by b to t) cs
      by true h = totals_new cs (grind (arith, h)) is
      by false h = totals_same cs (grind (arith, h, later)) is

  pub bounded_passed : IsBounded t → IsBounded (passed to t)
  bounded_passed bounded = by (nat_lt (second_of t.time) (second_of to)) refl
    where
      tally : (b : Bool) → nat_lt (second_of t.time) (second_of to) ≡ b → (x : Tally) → IsSmall (left_of t.time) x → IsSmall (left_of to) (anew_if b x)
      tally true h x small = small_anew (left_of to) x (left_most to) small.count
      tally false h x small =
          let same : second_of t.time ≡ second_of to = grind (arith, h, later) in
          small_later (left_of t.time) (left_of to) x (omega (arith, same, later)) small

      none_few : (b : Bool) (n : ℕ) → n ≤ counted_most → (if b then 0 else n) ≤ counted_most
      none_few true n h = omega arith
      none_few false n h = h

      by : (b : Bool) → nat_lt (second_of t.time) (second_of to) ≡ b → IsBounded (passed_by b to t)
      by b h = record {
        live = let x = count-anew b t.activator in let y = count-anew b t.direct in omega (arith, x, y, bounded.live);
        waiting = let x = count-anew b t.activator in omega (arith, x, bounded.waiting);
        activator = tally b h t.activator bounded.activator;
        direct = tally b h t.direct bounded.direct;
        arrived = none_few b t.arrived bounded.arrived;
      }

  pub bounded_new : second_of t.time < second_of to → IsBounded t → IsBounded (passed_by true to t)
  bounded_new new bounded =
      let new_one : nat_lt (second_of t.time) (second_of to) ≡ true = grind (arith, new) in
      subst (λ b. IsBounded (passed_by b to t)) new_one (bounded_passed bounded)
