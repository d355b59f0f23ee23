-- What one more row changes of the counts of a step.
use Rattle.std.specs.Prelude.{ℕ, ◌+◌, ◌-◌, ◌^◌, min, max, List, [], ◌∷◌, fold, sum, Option, None, Some}
use Rattle.kn_event.specs.declared.entry.Row.{Row}
use Rattle.kn_trace.specs.Rows.{arrived_by, begun_by, decision_by, ended_by, expired_by, refused_by}
use Rattle.kn_record.specs.Rows.{counted}
use Rattle.kn_show_series.specs.declared.counts.Counts.{Counts}
use Rattle.kn_show_series.specs.Steps.{failed_by}

-- where a request begins to run, it had waited so long
abbrev pub waits_by : Option ℕ → ℕ → List ℕ
waits_by None wait = []
waits_by (Some q) wait = wait ∷ []

-- up to the greatest sum that is kept
abbrev pub capped : ℕ → ℕ
capped n = min n (2 ^ 128 - 1)

abbrev pub with_row : Row → List ℕ → Counts → Counts
with_row x waits n = record {
  arrived = n.arrived + counted (arrived_by x);
  refused = n.refused + counted (refused_by x);
  ended = n.ended + counted (ended_by x);
  failed = n.failed + counted (failed_by x);
  expired = n.expired + counted (expired_by x);
  decisions = n.decisions + counted (decision_by x);
  ran = n.ran + counted (begun_by x);
  waited = capped (n.waited + sum waits);
  longest = fold max n.longest waits;
}

-- the rows that were counted, or more
abbrev pub size_of : Counts → ℕ
size_of n = n.arrived + n.refused + n.ended + n.failed + n.expired + n.decisions + n.ran

abbrev pub with_cap : Counts → Counts
with_cap n = record n { waited = capped n.waited }

-- with one request more that began to run and had waited so long
abbrev pub with_begun : ℕ → Counts → Counts
with_begun wait n = record n { ran = n.ran + 1; waited = capped (n.waited + wait); longest = max n.longest wait }
