-- What closes, and what a pod's area is, by the changes.
use Rattle.std.proofs.Common.{◌≡◌, refl, sym, ◌∙◌, ℕ, ◌+◌, ◌-◌, ◌*◌, ◌≤◌, ◌<◌, Bool, true, false, ◌&&◌, List, arith}
use Rattle.std.specs.Prelude.{nat_lt, None, Some, IfSome, if◌then◌else◌}
use Rattle.kn_event.specs.declared.revision.Metric.{Metric}
use Rattle.kn_event.specs.Lists.{contains, is_some_of}
use Rattle.kn_scaling.specs.Average.{second_of}
use Rattle.kn_stats.specs.declared.change.Change.{Change}
use Rattle.kn_stats.specs.declared.closed.Run.{Run}
use Rattle.kn_stats.specs.Changes.{TimedChange, after_sum, arrived_by, at, ends_admitted, ends_assigned, ends_directed, is_admitted, is_arrival_at, is_assigned, is_directed, is_end_at, load_by, pod_of, time_taken}
use Rattle.kn_stats.specs.Closing.{closed_by, end_of_first, is_sampled, run_of}
use Rattle.kn_stats.specs.Pods.{found, fresh, so_far}
use Rattle.kn_stats.specs.Totals.{IsBounded, IsTotalsOf, TotalsState, closed_at, left_of, live_of, passed, passed_by}
use Rattle.kn_stats.specs.Stands.{IsWithin, IsStatsOf, StatsState}
use Rattle.kn_stats.proofs.Allowed.{apart_arrivals, apart_ends, apart_pod_ends, apart_starts}
use Rattle.kn_stats.proofs.Bounds.{area_small}
use Rattle.kn_stats.proofs.Sums.{past-arrived, so_far_is, sum-both, sum-past}

-- ---- seconds

open_load : (t : TotalsState) (cs : List TimedChange) → IsTotalsOf t cs → load_by cs (second_of t.time) ≡ t.activator.area + t.direct.area
unfolding time_taken
open_load t cs is =
    let from = 1000 * second_of t.time in
    let until = 1000 * (second_of t.time + 1) in
    let a = sum-both is_admitted is_directed from until cs apart_starts in
    let b = sum-both ends_admitted ends_directed from until cs apart_ends in
    omega (arith, a, b, is.activator.area, is.direct.area)

pub whole_load : (t : TotalsState) (cs : List TimedChange) (n : ℕ) → IsTotalsOf t cs → second_of t.time < n → load_by cs n ≡ 1000 * live_of t
unfolding time_taken
whole_load t cs n is later =
    let from = 1000 * n in
    let until = 1000 * (n + 1) in
    let a = sum-both is_admitted is_directed from until cs apart_starts in
    let b = sum-both ends_admitted ends_directed from until cs apart_ends in
    let w = sum-past is_admitted n t.time cs later is.times in
    let x = sum-past is_directed n t.time cs later is.times in
    let y = sum-past ends_admitted n t.time cs later is.times in
    let z = sum-past ends_directed n t.time cs later is.times in
    omega (arith, a, b, w, x, y, z, is.activator.count, is.direct.count)

pub alike : (t : TotalsState) (cs : List TimedChange) (n : ℕ) → IsTotalsOf t cs → second_of t.time < n → load_by cs n ≡ load_by cs (second_of t.time + 1)
alike t cs n is later = whole_load t cs n is later ∙ sym (whole_load t cs (second_of t.time + 1) is (omega arith))

pub quiet : (t : TotalsState) (cs : List TimedChange) (n : ℕ) → IsTotalsOf t cs → second_of t.time < n → arrived_by cs n ≡ 0
quiet t cs n is later = past-arrived n t.time cs later is.times

pub closed_is : (t : TotalsState) (cs : List TimedChange) (to : ℕ) (ready : Bool) → IsTotalsOf t cs → closed_at t to ready ≡ closed_by t.metric cs (second_of t.time) (second_of to) ready
unfolding closed_by
closed_is t cs to ready is =
    rw (open_load t cs is, whole_load t cs (second_of t.time + 1) is (omega arith), ← is.arrived) refl

-- ---- within the open second nothing closes

none_from : (m : Metric) (ready : Bool) (from until load arrived : ℕ) → until ≤ from → run_of m ready from until load arrived ≡ None
none_from m ready from until load arrived le = by (nat_lt from until) refl
  where
    run : Run
    run = record { second = from; count = until - from; load = load; sampled = is_sampled m ready load arrived; arrived = arrived }

    by : (b : Bool) → nat_lt from until ≡ b → (if b then Some run else None) ≡ None
    by true h = absurd (grind (arith, h, le))
    by false h = refl

end_same : (from to : ℕ) → to ≤ from → end_of_first from to ≤ from
end_same from to le = by (nat_lt from to) refl
  where
    by : (b : Bool) → nat_lt from to ≡ b → (if b then from + 1 else from) ≤ from
    by true h = absurd (grind (arith, h, le))
    by false h = omega arith

pub none_closed : (t : TotalsState) (to : ℕ) (ready : Bool) → second_of t.time ≡ second_of to → closed_at t to ready ≡ record { first = None; rest = None }
none_closed t to ready same =
    let from = second_of t.time in
    let first = none_from t.metric ready from (end_of_first from (second_of to)) (t.activator.area + t.direct.area) t.arrived (end_same from (second_of to) (omega (arith, same))) in
    let rest = none_from t.metric ready (from + 1) (second_of to) (1000 * live_of t) 0 (omega (arith, same)) in
    cc

pub passed_within : (t : TotalsState) (to : ℕ) → second_of t.time ≡ second_of to → record t { time = to } ≡ passed to t
passed_within t to same = by (nat_lt (second_of t.time) (second_of to)) refl
  where
    by : (b : Bool) → nat_lt (second_of t.time) (second_of to) ≡ b → record t { time = to } ≡ passed_by b to t
    by true h = absurd (grind (arith, h, same))
    by false h = refl

-- no run is of more than a window takes
pub run_fits : (m : Metric) (ready : Bool) (from until load arrived : ℕ) → load ≤ 1000000000 → arrived ≤ 1000000 → IfSome (run_of m ready from until load arrived) (λ (run : Run). (run.load ≤ 1000000000) × (run.arrived ≤ 1000000))
run_fits m ready from until load arrived few fewer = by (nat_lt from until)
  where
    by : (b : Bool) → IfSome (if b then Some (record { second = from; count = until - from; load = load; sampled = is_sampled m ready load arrived; arrived = arrived }) else None) (λ (run : Run). (run.load ≤ 1000000000) × (run.arrived ≤ 1000000))
    by true = (few, fewer)
    by false = tt

pub load_few : (t : TotalsState) → IsBounded t → t.activator.area + t.direct.area ≤ 1000000000
load_few t bounded =
    let a = area_small (left_of t.time) t.activator bounded.activator (omega arith) in
    let b = area_small (left_of t.time) t.direct bounded.direct (omega arith) in
    omega (arith, a, b)

-- ---- the area of a pod

module _ (s : StatsState) (cs : List TimedChange) (gone : List ℕ) (p : ℕ) (within : IsWithin s) (is : IsStatsOf s cs gone) (there : contains p gone ≡ false) where
  from : ℕ
  from = 1000 * second_of s.time

  q_proxied : so_far (left_of s.time) (fresh (second_of s.time) (found p s.pods)).proxied + after_sum (at ends_assigned p) from s.time cs ≡ after_sum (at is_assigned p) from s.time cs
  unfolding from
  q_proxied =
      let t = (fresh (second_of s.time) (found p s.pods)).proxied in
      let sum = so_far_is (at is_assigned p) (at ends_assigned p) s.time t cs is.totals.times (is.pods p there).proxied in
      let least = (within.pods p).proxied.least in
      omega (arith, sum, least)

  q_direct : so_far (left_of s.time) (fresh (second_of s.time) (found p s.pods)).direct + after_sum (at ends_directed p) from s.time cs ≡ after_sum (at is_directed p) from s.time cs
  unfolding from
  q_direct =
      let t = (fresh (second_of s.time) (found p s.pods)).direct in
      let sum = so_far_is (at is_directed p) (at ends_directed p) s.time t cs is.totals.times (is.pods p there).direct in
      let least = (within.pods p).direct.least in
      omega (arith, sum, least)

  pub proxied_is : so_far (left_of s.time) (fresh (second_of s.time) (found p s.pods)).proxied ≡ time_taken (at is_assigned p) (at ends_assigned p) (1000 * second_of s.time) s.time cs
  unfolding time_taken from
  proxied_is = let sum = q_proxied in omega (arith, sum)

  apart-at : (f g : Change → Bool) → ((c : Change) → f c ≡ true → g c ≡ false) → (c : Change) → at f p c ≡ true → at g p c ≡ false
  apart-at f g apart c h = by (f c) (g c) (is_some_of p (pod_of c)) (apart c) h
    where
      by : (a b o : Bool) → (a ≡ true → b ≡ false) → (a && o) ≡ true → (b && o) ≡ false
      by true true o k h = absurd (let e = k refl in cc)
      by true false o k h = refl
      by false b o k h = absurd (cc)

  pub area_is : so_far (left_of s.time) (fresh (second_of s.time) (found p s.pods)).direct + so_far (left_of s.time) (fresh (second_of s.time) (found p s.pods)).proxied
      ≡ time_taken (is_arrival_at p) (is_end_at p) (1000 * second_of s.time) s.time cs
  unfolding time_taken from
  area_is =
      let a = sum-both (at is_directed p) (at is_assigned p) (1000 * second_of s.time) s.time cs (apart-at is_directed is_assigned apart_arrivals) in
      let b = sum-both (at ends_directed p) (at ends_assigned p) (1000 * second_of s.time) s.time cs (apart-at ends_directed ends_assigned apart_pod_ends) in
      let x = q_direct in
      let y = q_proxied in
      omega (arith, a, b, x, y)
