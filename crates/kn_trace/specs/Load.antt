-- How many milliseconds of each second the requests took, how many came in it, and which seconds are samples.
use Rattle.std.specs.Prelude.{ℕ, Bool, not, ◌+◌, ◌-◌, ◌*◌, ◌||◌, ◌==◌, nat_lt, min, max, List, length, Option, None, Some, option_map, if◌then◌else◌}
use Rattle.std.specs.Bool.{then_some}
use Rattle.std.specs.List.{filter, filter_map, sum_by}
use Rattle.kn_event.specs.declared.entry.Entry.{Entry}
use Rattle.kn_event.specs.declared.revision.Metric.{Metric}
use Rattle.kn_event.specs.Lists.{is_some_of}
use Rattle.kn_scaling.specs.Average.{Samples, second_of, value_of}
use Rattle.kn_trace.specs.Rows.{taken_by, ended_by}
use Rattle.kn_trace.specs.Trace.{Trace, first_of, is_empty, ready_pods}

-- the time that a request was live: from its admission or its being sent straight to a pod, to its end
pub record Span : Type 0 where
  pub from : ℕ
  pub until : Option ℕ

-- the time of the entry, where it ends request r
abbrev pub end_by : ℕ → Entry → Option ℕ
end_by r e = then_some (is_some_of r (ended_by e.row)) e.time

unfoldable pub end_of : Trace → ℕ → Option ℕ
end_of c r = first_of (filter_map (end_by r) c)

-- the span of the request that the entry takes in
abbrev pub span_of : Trace → Entry → Option Span
span_of c e = option_map (λ r. record { from = e.time; until = end_of c r }) (taken_by e.row)

unfoldable pub spans : Trace → List Span
spans c = filter_map (span_of c) c

abbrev pub end_within : ℕ → Option ℕ → ℕ
end_within b None = b
end_within b (Some t) = min b t

-- the milliseconds that a span has in common with those from a up to b, without b
abbrev pub overlap : ℕ → ℕ → Span → ℕ
overlap a b span = end_within b span.until - max a span.from

abbrev pub load_of : List Span → ℕ → ℕ
load_of all s = sum_by (overlap (1000 * s) (1000 * (s + 1))) all

-- the load of second s: the sum over all requests
unfoldable pub load_in : Trace → ℕ → ℕ
load_in c s = load_of (spans c) s

abbrev pub has_ready_pod : Trace → Bool
has_ready_pod c = not (is_empty (ready_pods c))

abbrev pub entries_before : ℕ → Trace → Trace
entries_before t c = filter (λ e. nat_lt e.time t) c

-- the most requests of one second that count
abbrev pub count_most : ℕ
count_most = 1000000

-- the request that is taken in with this entry, where that is in second s
abbrev pub taken_in : ℕ → Entry → Option ℕ
taken_in s e = if second_of e.time == s then taken_by e.row else None

-- how many requests were taken in in second s, through the activator or past it
unfoldable pub count_in : Trace → ℕ → ℕ
count_in c s = min count_most (length (filter_map (taken_in s) c))

-- a second is a sample where its value or its load is above 0, or a pod is Ready at its end, which is after all entries
-- before the next second. Before the start there is none of these
abbrev pub sample_of : Metric → List Span → Trace → Samples
sample_of m all c s =
    let load = load_of all s in
    let value = value_of m load (count_in c s) in
    then_some (nat_lt 0 value || nat_lt 0 load || has_ready_pod (entries_before (1000 * (s + 1)) c)) value

-- the value of each second that is a sample, by the metric
unfoldable pub samples : Metric → Trace → Samples
samples m c = sample_of m (spans c) c
