-- The lines of a whole run, and what their counts come to in all.
use Rattle.std.specs.Prelude.{◌≡◌, ℕ, ◌+◌, nat_lt, List, [], ◌∷◌, ◌++◌, length, sum}
use Rattle.std.specs.List.{filter, flat_map, range_with_len, sum_by}
use Rattle.kn_event.specs.declared.event.Event.{Event}
use Rattle.kn_trace.specs.Report.{Totals, totals}
use Rattle.kn_trace.specs.Trace.{each_row}
use Rattle.kn_trace.specs.Rows.{begun_by}
use Rattle.kn_lives.specs.Lives.{by_row}
use Rattle.kn_teller.specs.Manner.{told}
use Rattle.kn_teller.specs.Run.{Run, begun, trace}
use Rattle.kn_show_series.specs.declared.counts.Counts.{Counts}
use Rattle.kn_show_series.specs.Series.{open_step, series, step_line}
use Rattle.kn_show_series.specs.Steps.{counts_in, is_told, step_of, wait_of}

-- ---- lines

-- what had come of a run when step k was over
unfoldable pub run_up_to : ℕ → Run → ℕ → Run
run_up_to step r k = record {
  spec = r.spec;
  start = r.start;
  events = filter (λ (e : Event). nat_lt (step_of step r.start e.time) (k + 1)) r.events;
}

-- the line of step k of a whole run, and the counts that are in it
unfoldable pub line_at : ℕ → Run → ℕ → List ℕ
line_at step r k = step_line step (run_up_to step r k) k

unfoldable pub counts_at : ℕ → Run → ℕ → Counts
counts_at step r k = counts_in step (run_up_to step r k) k

-- the steps that have one, in order: each that is told before that of the last event, and this one
unfoldable pub steps_with_line : ℕ → Run → List ℕ
steps_with_line step r = filter (is_told step r) (range_with_len 0 (open_step step r)) ++ open_step step r ∷ []

-- all that is written of a whole run behind the header is these lines
abbrev pub HasLines : ℕ → Run → Type 0
HasLines step r = (version : ℕ)
    → told (series step) (begun r.spec r.start) r.events ++ (series step).ends version r
    ≡ flat_map (line_at step r) (steps_with_line step r)

-- ---- counts

-- what the last line of a report says of them
abbrev pub refused_in : Totals → ℕ
refused_in t = t.queue_full + t.overload

abbrev pub arrived_in : Totals → ℕ
arrived_in t = t.admitted + t.direct + refused_in t

abbrev pub ended_in : Totals → ℕ
ended_in t = t.finished + t.failed + t.expired + t.cancelled + t.lost

-- one count over all lines
abbrev pub over_lines_of : (Counts → ℕ) → ℕ → Run → ℕ
over_lines_of count step r = sum_by (λ k. count (counts_at step r k)) (steps_with_line step r)

-- over all lines they come to what the last line of a report says, and those that ran and what they had waited to what the
-- trace has
pub record SumUp (step : ℕ) (r : Run) : Type 0 where
  pub arrived : over_lines_of (λ n. n.arrived) step r ≡ arrived_in (totals (trace r))
  pub refused : over_lines_of (λ n. n.refused) step r ≡ refused_in (totals (trace r))
  pub ended : over_lines_of (λ n. n.ended) step r ≡ ended_in (totals (trace r))
  pub failed : over_lines_of (λ n. n.failed) step r ≡ (totals (trace r)).failed
  pub expired : over_lines_of (λ n. n.expired) step r ≡ (totals (trace r)).expired
  pub decisions : over_lines_of (λ n. n.decisions) step r ≡ (totals (trace r)).decisions
  pub ran : over_lines_of (λ n. n.ran) step r ≡ length (each_row begun_by (trace r))
  pub waited : over_lines_of (λ n. n.waited) step r ≡ sum (by_row wait_of [] (trace r))
