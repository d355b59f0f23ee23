-- Which timed changes a Stats stands for.
use Rattle.std.specs.Prelude.{◌≡◌, true, false, ℕ, ◌+◌, ◌<◌, ◌≤◌, List, [], length, Option, None, Some}
use Rattle.std.specs.List.{sum_by}
use Rattle.kn_event.specs.declared.revision.Metric.{Metric}
use Rattle.kn_event.specs.Lists.{contains}
use Rattle.kn_scaling.specs.Average.{second_of}
use Rattle.kn_stats.specs.declared.change.Change.{Change}
use Rattle.kn_stats.specs.declared.change.Change.TheVariants as change
use Rattle.kn_stats.specs.declared.tally.Tally.{Tally}
use Rattle.kn_stats.specs.declared.tally.PodTally.{PodTally}
use Rattle.kn_stats.specs.Changes.{TimedChange, at, ends_assigned, ends_directed, is_assigned, is_directed, pod_of}
use Rattle.kn_stats.specs.Pods.{IsSmallPod, IsSorted, found, fresh, pod_after, put, without_pod}
use Rattle.kn_stats.specs.Totals.{IsBounded, IsTally, IsTotalsOf, TotalsState, counted, left_of, opened_totals, passed}

-- what is kept: the totals, and the pods
pub record StatsState : Type 0 where
  pub metric : Metric
  pub time : ℕ  -- of the last advance
  pub waiting : ℕ  -- live requests that the activator took in and handed to no pod
  pub activator : Tally  -- of the live requests that the activator took in
  pub direct : Tally  -- of those that went past it
  pub arrived : ℕ  -- how many came in the open second, as far as they are counted
  pub pods : List PodTally  -- of the pods that were named and haven't left, in the order of their numbers

abbrev pub totals_in : StatsState → TotalsState
totals_in s = record { metric = s.metric; time = s.time; waiting = s.waiting; activator = s.activator; direct = s.direct; arrived = s.arrived }

abbrev pub with_pods : List PodTally → TotalsState → StatsState
with_pods pods t = record { metric = t.metric; time = t.time; waiting = t.waiting; activator = t.activator; direct = t.direct; arrived = t.arrived; pods = pods }

-- at the start
abbrev pub opened : Metric → ℕ → StatsState
opened m start = with_pods [] (opened_totals m start)

pub record IsPodOf (p second : ℕ) (q : PodTally) (cs : List TimedChange) : Type 0 where
  pub direct : IsTally (at is_directed p) (at ends_directed p) second (fresh second q).direct cs
  pub proxied : IsTally (at is_assigned p) (at ends_assigned p) second (fresh second q).proxied cs

-- it stands for these changes, where the pods in `gone` have left
pub record IsStatsOf (s : StatsState) (cs : List TimedChange) (gone : List ℕ) : Type 0 where
  pub totals : IsTotalsOf (totals_in s) cs
  pub pods : (p : ℕ) → contains p gone ≡ false → IsPodOf p (second_of s.time) (found p s.pods) cs

-- ---- one change

-- pod p is among the pods that are kept, or there is room for it
abbrev pub HasRoom : StatsState → ℕ → Type 0
HasRoom s p = length (put p (λ q. q) s.pods) ≤ 20500

-- what a change needs: few enough live requests before one more; one that waits before it is handed over, or ends so; one of
-- its kind at the pod before it ends there; and room for a pod that one comes to
abbrev pub CanChange : StatsState → Change → Type 0
CanChange s change.Admitted = s.activator.count + s.direct.count < 20000
CanChange s (change.Assigned p) = (0 < s.waiting) × HasRoom s p
CanChange s (change.Directed p) = (s.activator.count + s.direct.count < 20000) × HasRoom s p
CanChange s change.EndedHeld = 0 < s.waiting
CanChange s (change.EndedAt p true) = 0 < (found p s.pods).proxied.count
CanChange s (change.EndedAt p false) = 0 < (found p s.pods).direct.count

abbrev pub pods_by : Option ℕ → ℕ → Change → List PodTally → List PodTally
pods_by None time c pods = pods
pods_by (Some p) time c pods = put p (pod_after (second_of time) (left_of time) c) pods

abbrev pub changed : Change → StatsState → StatsState
changed c s = with_pods (pods_by (pod_of c) s.time c s.pods) (counted c (totals_in s))

abbrev pub without : ℕ → StatsState → StatsState
without p s = record s { pods = without_pod p s.pods }

-- nothing is at the pod
pub record IsIdle (p : ℕ) (s : StatsState) : Type 0 where
  pub direct : (found p s.pods).direct.count ≡ 0
  pub proxied : (found p s.pods).proxied.count ≡ 0

-- time passes
abbrev pub advanced : ℕ → StatsState → StatsState
advanced to s = with_pods s.pods (passed to (totals_in s))

-- ---- bounds

pub record IsWithin (s : StatsState) : Type 0 where
  pub totals : IsBounded (totals_in s)
  pub waiting : s.waiting + sum_by (λ (q : PodTally). q.proxied.count) s.pods ≡ s.activator.count
  pub directed : sum_by (λ (q : PodTally). q.direct.count) s.pods ≡ s.direct.count
  pub sorted : IsSorted s.pods
  pub pods : (p : ℕ) → IsSmallPod (second_of s.time) (left_of s.time) (found p s.pods)
  pub room : length s.pods ≤ 20500
