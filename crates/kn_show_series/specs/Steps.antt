-- The steps of a run, and what lies in each. Steps are as many milliseconds long, and counted from the start.
use Rattle.std.specs.Prelude.{◌≡◌, ℕ, Bool, true, false, ◌+◌, ◌-◌, ◌/◌, ◌^◌, ◌<◌, ◌==◌, ◌&&◌, ◌||◌, nat_lt, max, List, [], ◌∷◌, map, take, length, sum, fold, count_by, Option, None, Some, unwrap_or, if◌then◌else◌}
use Rattle.std.specs.List.{filter, list_any, range_with_len}
use Rattle.kn_event.specs.Revision.{AreInRange}
use Rattle.kn_event.specs.declared.entry.Entry.{Entry}
use Rattle.kn_event.specs.declared.entry.Row.{Row}
use Rattle.kn_event.specs.declared.entry.Row.TheVariants as row
use Rattle.kn_event.specs.declared.event.Event.{Event}
use Rattle.kn_event.specs.declared.revision.Kind.{Kind}
use Rattle.kn_event.specs.declared.revision.Kind.TheVariants as kind
use Rattle.kn_event.specs.declared.revision.Spec.{Spec}
use Rattle.kn_trace.specs.Events.{trace_of}
use Rattle.kn_trace.specs.Rows.{arrived_by, begun_by, decision_by, ended_by, expired_by, refused_by, taken_by}
use Rattle.kn_trace.specs.Scale.{count_ready, wanted}
use Rattle.kn_trace.specs.Trace.{Trace, draining, each_row, held, starting_pods}
use Rattle.kn_throttle.specs.Gauges.{count_queued, count_running}
use Rattle.kn_core.specs.State.{RevisionState, StandsFor}
use Rattle.kn_lives.specs.Lives.{by_row, time_of}
use Rattle.kn_teller.specs.Run.{Run, trace}
use Rattle.kn_show_series.specs.declared.counts.Counts.{Counts}
use Rattle.kn_show_series.specs.declared.gauges.Gauges.{Gauges}

-- the step that a time lies in
abbrev pub step_of : ℕ → ℕ → ℕ → ℕ
step_of step start t = (t - start) / step

-- ---- rows

unfoldable pub rows_in : ℕ → ℕ → ℕ → Trace → Trace
rows_in step start k c = filter (λ (x : Entry). step_of step start x.time == k) c

-- a finished request that failed
abbrev pub failed_by : Row → Option ℕ
failed_by (row.Finish r false) = Some r
failed_by _ = None

-- the greatest of numbers, 0 of none
abbrev pub greatest : List ℕ → ℕ
greatest ns = fold max 0 ns

-- ---- how long those had waited that begin to run

-- since its arrival in this trace
abbrev pub wait_until : ℕ → Trace → Option ℕ → List ℕ
wait_until t before None = []
wait_until t before (Some q) = (t - unwrap_or (time_of taken_by before q) 0) ∷ []

abbrev pub wait_of : Trace → Entry → List ℕ
wait_of before x = wait_until x.time before (begun_by x.row)

abbrev pub wait_in : ℕ → ℕ → ℕ → Trace → Entry → List ℕ
wait_in step start k before x = if step_of step start x.time == k then wait_of before x else []

unfoldable pub waits_in : ℕ → ℕ → ℕ → Trace → List ℕ
waits_in step start k c = by_row (wait_in step start k) [] c

-- of whatever trace a revision stands for, all that the requests of a step had waited comes to less than what its count holds
abbrev pub WaitsFit : RevisionState → Type 0
WaitsFit x = (c : Trace) (step from k : ℕ) → StandsFor x c → AreInRange x.spec → sum (waits_in step from k c) < 2 ^ 128

-- ---- counts

unfoldable pub counts_of : Trace → List ℕ → Counts
counts_of rows waits = record {
  arrived = length (each_row arrived_by rows);
  refused = length (each_row refused_by rows);
  ended = length (each_row ended_by rows);
  failed = length (each_row failed_by rows);
  expired = length (each_row expired_by rows);
  decisions = length (each_row decision_by rows);
  ran = length (each_row begun_by rows);
  waited = sum waits;
  longest = greatest waits;
}

-- of the rows of a trace that lie in step k
abbrev pub counts_within : ℕ → ℕ → ℕ → Trace → Counts
counts_within step start k c = counts_of (rows_in step start k c) (waits_in step start k c)

-- .. of a run
abbrev pub counts_in : ℕ → Run → ℕ → Counts
counts_in step r k = counts_within step r.start k (trace r)

-- ---- gauges

-- by its setup a fixed revision wants so many pods
abbrev pub pods_of : Kind → ℕ
pods_of (kind.Fixed pods) = pods
pods_of kind.Kpa = 0

abbrev pub wanted_of : Kind → Spec → Trace → ℕ
wanted_of (kind.Fixed pods) s c = pods
wanted_of kind.Kpa s c = wanted s c

-- this holds of whatever trace a revision stands for, where by its setup a fixed one wants so many pods
abbrev pub OnTrace : RevisionState → ℕ → (Trace → Type 0) → Type 0
OnTrace x pods P = (c : Trace) → StandsFor x c → pods ≡ pods_of x.spec.kind → P c

unfoldable pub gauges_of : Spec → Trace → Gauges
gauges_of s c = record {
  ready = count_ready c;
  starting = length (starting_pods c);
  draining = length (draining c);
  wanted = wanted_of s.kind s c;
  held = length (held c);
  queued = count_queued c;
  running = count_running c;
}

-- ---- the most held

-- how many events came before step k
unfoldable pub events_before : ℕ → Run → ℕ → ℕ
events_before step r k = count_by (λ (e : Event). nat_lt (step_of step r.start e.time) k) r.events

-- how many requests were held after so many events
unfoldable pub held_after : Run → ℕ → ℕ
held_after r n = length (held (trace_of r.spec r.start (take n r.events)))

-- as step k began, and after each of its events
unfoldable pub held_peak : ℕ → Run → ℕ → ℕ
held_peak step r k =
    let from = events_before step r k in
    greatest (map (held_after r) (range_with_len from (events_before step r (k + 1) + 1 - from)))

-- ---- which steps have a line

abbrev pub is_shown : Row → Bool
is_shown row.NoData = false
is_shown _ = true

-- the first step, and each in which there is a row that is no tick without a sample
unfoldable pub is_filled : ℕ → Run → ℕ → Bool
is_filled step r k = k == 0 || list_any (λ (x : Entry). is_shown x.row) (rows_in step r.start k (trace r))

-- the step after a filled one
unfoldable pub follows_filled : ℕ → Run → ℕ → Bool
follows_filled step r k = nat_lt 0 k && is_filled step r (k - 1)

abbrev pub is_told : ℕ → Run → ℕ → Bool
is_told step r k = is_filled step r k || follows_filled step r k
