-- When a trace was made by events: each of its rows was proper when it came.
use Rattle.std.specs.Prelude.{◌≡◌, ℕ, ◌<◌, ◌≤◌, true, false, List, [], ◌∷◌, ◌++◌, length, None, Some, ⊤}
use Rattle.kn_event.specs.declared.entry.Row.{Row}
use Rattle.kn_event.specs.declared.entry.Row.TheVariants as row
use Rattle.kn_event.specs.declared.revision.Spec.{Spec}
use Rattle.kn_event.specs.Revision.{AreInRange}
use Rattle.kn_event.specs.Lists.{contains}
use Rattle.kn_scaling.specs.Zero.{pods_most}
use Rattle.kn_trace.specs.Rows.{admitted_by, directed_by, refused_by, taken_by, created_by}
use Rattle.kn_trace.specs.Trace.{Trace, arrivals, assigned, at_pod, created, draining, each_row, has_run, is_running, live, live_pods, starting_pods, waiting}
use Rattle.kn_trace.specs.Capacity.{breaker_full, pod_full}
use Rattle.kn_trace.specs.Scale.{drain_order}
use Rattle.kn_trace.specs.Events.{live_most}
use Rattle.kn_trace.specs.Laws.{IsAssignable, IsDirectable, IsRunnable}
use Rattle.kn_record.specs.Rows.{named_by, moved_by, pod_named_by}
use Rattle.kn_record.specs.Admission.{Admission, admission}

-- ---- what the tests just before a row make sure of, kind by kind

-- the next number, while there is room for one more live request
pub record IsNext (c : Trace) (r : ℕ) : Type 0 where
  pub number : r ≡ arrivals c
  pub room : length (live c) < live_most

abbrev pub IsProper : Spec → Trace → Row → Type 0
IsProper s c (row.Admit r tag) = IsNext c r × (breaker_full s c ≡ false)
IsProper s c (row.QueueFull r None) = IsNext c r × (breaker_full s c ≡ true)
IsProper s c (row.QueueFull r (Some p)) = IsNext c r × (pod_full c p ≡ true)
IsProper s c (row.Overload r) = (r ≡ arrivals c) × (live_most ≤ length (live c))
IsProper s c (row.Assign r p) = IsAssignable s c r p
IsProper s c (row.Direct r p) = IsNext c r × IsDirectable c p
IsProper s c (row.Run r) = (p : ℕ) × IsRunnable c r p
IsProper s c (row.Finish r ok) = is_running c r ≡ true
IsProper s c (row.Expire r) = contains r (waiting c) ≡ true
IsProper s c (row.Cancel r) = contains r (waiting c) ≡ true
IsProper s c (row.LostRequest r) = (p : ℕ) × (contains r (at_pod c p) ≡ true)
IsProper s c (row.Create p n) = (p ≡ created c) × (AreInRange s → length (drain_order c) < pods_most)
IsProper s c (row.Limit p n) = contains p (live_pods c) ≡ true
IsProper s c (row.Ready p) = contains p (starting_pods c) ≡ true
IsProper s c (row.Drain p) = contains p (drain_order c) ≡ true
IsProper s c (row.Remove p) = (contains p (draining c) ≡ true) × (at_pod c p ≡ [])
IsProper s c (row.LostPod p) = (contains p (live_pods c) ≡ true) × (at_pod c p ≡ [])
IsProper s c (row.Decided d) = AreInRange s → d.want ≤ pods_most
IsProper s c _ = ⊤

-- P holds of each further row, and of the trace before it
abbrev pub Holds : (Trace → Row → Type 0) → Trace → Trace → Type 0
Holds P before [] = ⊤
Holds P before (e ∷ es) = P before e.row × Holds P (before ++ e ∷ []) es

-- each row of the trace was proper when it came
pub record IsMade (s : Spec) (c : Trace) : Type 0 where
  pub rows : Holds (IsProper s) [] c

-- ---- what is so of a trace that events made

abbrev pub AreDistinct : List ℕ → Type 0
AreDistinct [] = ⊤
AreDistinct (x ∷ xs) = (contains x xs ≡ false) × AreDistinct xs

pub record IsNumbered (c : Trace) : Type 0 where
  -- no row is about a request that has still to come
  pub come : (r : ℕ) → contains r (each_row named_by c) ≡ true → r < arrivals c
  -- each request is taken in once, or refused
  pub once : AreDistinct (each_row taken_by c)
  pub apart : (r : ℕ) → contains r (each_row refused_by c) ≡ true → contains r (each_row taken_by c) ≡ false
  -- a direct one isn't admitted, only an admitted one is assigned, and only a direct one has a run entry
  pub direct : (r : ℕ) → contains r (each_row directed_by c) ≡ true → contains r (each_row admitted_by c) ≡ false
  pub assigned : (r : ℕ) → assigned c r ≡ true → contains r (each_row admitted_by c) ≡ true
  pub ran : (r : ℕ) → has_run c r ≡ true → contains r (each_row directed_by c) ≡ true
  -- each comes to a pod once
  pub moved : AreDistinct (each_row moved_by c)

pub record ArePodsNumbered (c : Trace) : Type 0 where
  -- no row is about a pod that has still to be created
  pub come : (p : ℕ) → contains p (each_row pod_named_by c) ≡ true → p < created c
  pub once : AreDistinct (each_row created_by c)

-- a record of what is kept stands for a trace
pub record IsRecordOf (a : Admission) (c : Trace) : Type 0 where
  pub kept : a ≡ admission c
  pub requests : IsNumbered c
  pub pods : ArePodsNumbered c
