-- Which timed changes a Totals stands for: what all live requests come to, whatever their pods.
use Rattle.std.specs.Prelude.{◌≡◌, true, false, ℕ, Bool, ◌+◌, ◌-◌, ◌*◌, ◌%◌, ◌<◌, ◌≤◌, min, nat_lt, List, if◌then◌else◌}
use Rattle.kn_event.specs.declared.revision.Metric.{Metric}
use Rattle.kn_scaling.specs.Average.{second_of}
use Rattle.kn_stats.specs.declared.change.Change.{Change}
use Rattle.kn_stats.specs.declared.change.Change.TheVariants as change
use Rattle.kn_stats.specs.declared.closed.Closed.{Closed}
use Rattle.kn_stats.specs.declared.tally.Tally.{Tally}
use Rattle.kn_stats.specs.Changes.{AreBy, TimedChange, after_sum, arrived_count, count_of, counted_most, ends_admitted, ends_directed, ends_waiting, is_admitted, is_directed, is_start}
use Rattle.kn_stats.specs.Closing.{end_of_first, run_of}
use Rattle.kn_stats.specs.Pods.{IsSmall, anew_if, no_tally, tally_after}

-- what is kept
pub record TotalsState : Type 0 where
  pub metric : Metric
  pub time : ℕ  -- of the last advance
  pub waiting : ℕ  -- live requests that the activator took in and handed to no pod
  pub activator : Tally  -- of the live requests that the activator took in
  pub direct : Tally  -- of those that went past it
  pub arrived : ℕ  -- how many came in the open second, as far as they are counted

-- at the start
abbrev pub opened_totals : Metric → ℕ → TotalsState
opened_totals m start = record { metric = m; time = start; waiting = 0; activator = no_tally; direct = no_tally; arrived = 0 }

-- what is left of the second of this time
abbrev pub left_of : ℕ → ℕ
left_of time = 1000 - time % 1000

-- how many requests are live
abbrev pub live_of : TotalsState → ℕ
live_of t = t.activator.count + t.direct.count

-- with these changes so many are there, and the open second comes to this area where nothing more changes in it
pub record IsTally (begins ends : Change → Bool) (second : ℕ) (t : Tally) (cs : List TimedChange) : Type 0 where
  pub count : t.count + count_of ends cs ≡ count_of begins cs
  pub area : t.area + after_sum ends (1000 * second) (1000 * (second + 1)) cs ≡ after_sum begins (1000 * second) (1000 * (second + 1)) cs

-- it stands for these changes
pub record IsTotalsOf (t : TotalsState) (cs : List TimedChange) : Type 0 where
  pub times : AreBy t.time cs
  pub waiting : t.waiting + count_of ends_waiting cs ≡ count_of is_admitted cs
  pub activator : IsTally is_admitted ends_admitted (second_of t.time) t.activator cs
  pub direct : IsTally is_directed ends_directed (second_of t.time) t.direct cs
  pub arrived : t.arrived ≡ arrived_count cs (second_of t.time)

-- ---- one change

-- what a change needs: few enough live requests before one more; one that waits before it is handed over, or ends so; and one
-- of its kind that doesn't wait before it ends at a pod
abbrev pub CanCount : TotalsState → Change → Type 0
CanCount t change.Admitted = live_of t < 20000
CanCount t (change.Assigned p) = 0 < t.waiting
CanCount t (change.Directed p) = live_of t < 20000
CanCount t change.EndedHeld = 0 < t.waiting
CanCount t (change.EndedAt p true) = t.waiting < t.activator.count
CanCount t (change.EndedAt p false) = 0 < t.direct.count

abbrev pub waiting_after : Change → ℕ → ℕ
waiting_after c n = if is_admitted c then n + 1 else (if ends_waiting c then n - 1 else n)

abbrev pub arrived_after : Change → ℕ → ℕ
arrived_after c n = if is_start c then min counted_most (n + 1) else n

abbrev pub counted : Change → TotalsState → TotalsState
counted c t = record {
  metric = t.metric;
  time = t.time;
  waiting = waiting_after c t.waiting;
  activator = tally_after (is_admitted c) (ends_admitted c) (left_of t.time) t.activator;
  direct = tally_after (is_directed c) (ends_directed c) (left_of t.time) t.direct;
  arrived = arrived_after c t.arrived;
}

-- ---- time

abbrev pub passed_by : Bool → ℕ → TotalsState → TotalsState
passed_by is_new to t = record {
  metric = t.metric;
  time = to;
  waiting = t.waiting;
  activator = anew_if is_new t.activator;
  direct = anew_if is_new t.direct;
  arrived = if is_new then 0 else t.arrived;
}

abbrev pub passed : ℕ → TotalsState → TotalsState
passed to t = passed_by (nat_lt (second_of t.time) (second_of to)) to t

-- what is over at this time
abbrev pub closed_at : TotalsState → ℕ → Bool → Closed
closed_at t to ready =
    let from = second_of t.time in
    record {
      first = run_of t.metric ready from (end_of_first from (second_of to)) (t.activator.area + t.direct.area) t.arrived;
      rest = run_of t.metric ready (from + 1) (second_of to) (1000 * live_of t) 0;
    }

-- ---- bounds

pub record IsBounded (t : TotalsState) : Type 0 where
  pub live : live_of t ≤ 20000
  pub waiting : t.waiting ≤ t.activator.count
  pub activator : IsSmall (left_of t.time) t.activator
  pub direct : IsSmall (left_of t.time) t.direct
  pub arrived : t.arrived ≤ counted_most
