-- What is known of the seconds that are over when time passes.
use Rattle.std.specs.Prelude.{ℕ, Bool, true, false, ◌+◌, ◌-◌, ◌&&◌, ◌||◌, nat_lt, List, Option, None, Some, if◌then◌else◌}
use Rattle.kn_event.specs.declared.revision.Metric.{Metric}
use Rattle.kn_event.specs.declared.revision.Metric.TheVariants as metric
use Rattle.kn_stats.specs.declared.closed.Closed.{Closed}
use Rattle.kn_stats.specs.declared.closed.Run.{Run}
use Rattle.kn_stats.specs.Changes.{TimedChange, arrived_count, load_by}

abbrev pub counts_arrivals : Metric → Bool
counts_arrivals metric.Concurrency = false
counts_arrivals metric.Rps = true

-- a second is a sample where it has a load, a pod is Ready at its end, or arrivals are counted and there are some
abbrev pub is_sampled : Metric → Bool → ℕ → ℕ → Bool
is_sampled m ready load arrived = nat_lt 0 load || ready || (counts_arrivals m && nat_lt 0 arrived)

-- the seconds from one up to another, if any, each with this load; the arrivals are those of the first of them
abbrev pub run_of : Metric → Bool → ℕ → ℕ → ℕ → ℕ → Option Run
run_of m ready from until load arrived =
    if nat_lt from until then Some (record { second = from; count = until - from; load = load; sampled = is_sampled m ready load arrived; arrived = arrived }) else None

-- where the open second ends with another one open then: it, where that is a later one
abbrev pub end_of_first : ℕ → ℕ → ℕ
end_of_first from to = if nat_lt from to then from + 1 else from

-- the open second, where it closed, and the whole seconds between it and the one that is open now; no change lies in these
unfoldable pub closed_by : Metric → List TimedChange → ℕ → ℕ → Bool → Closed
closed_by m cs from to ready = record {
  first = run_of m ready from (end_of_first from to) (load_by cs from) (arrived_count cs from);
  rest = run_of m ready (from + 1) to (load_by cs (from + 1)) 0;
}
