-- A summary, computed.
use Rattle.std.specs.Prelude.{◌≡◌, ℕ, List, ⊤}
use Rattle.kn_event.specs.declared.event.Event.{Event}
use Rattle.kn_event.specs.declared.revision.Spec.{Spec}
use Rattle.kn_throttle.specs.Gauges.{count_running}
use Rattle.kn_lives.specs.Lives.{by_row, time_of}
use Rattle.kn_begun.specs.Begun.{waits}
use Rattle.kn_waits.specs.Waits.{percentile}
use Rattle.kn_costs.specs.Gauges.{costs, gauges, peaks}
use Rattle.kn_costs.specs.Steps.{area, cold, moments, peak, steps, steps_from}
use Rattle.kn_show_summary.specs.Counted.{counted, wakes, wanted_changes}
use Rattle.kn_show_summary.specs.Summary.{summary}
use Rattle.kn_show_summary.specs.Text.{costs_text, decisions_text, ended_text, figure, figure_known, left_text, peaks_text, percentiles_text, pods_text, refused_text, requests_text, run_text, starts_text, taken_text, waits_text}

-- the summary of a run of these events is just this text
abbrev pub Sums : Spec → ℕ → List Event → List ℕ → Type 0
Sums s start es text = summary (record { spec = s; start = start; events = es }) ≡ text

-- a proof that names this on its `unfolding` line computes a whole summary
unfoldable pub whole_summary : Type 0
unfolding count_running by_row time_of waits percentile counted wakes wanted_changes costs gauges peaks area cold moments peak steps steps_from summary costs_text decisions_text ended_text figure figure_known left_text peaks_text percentiles_text pods_text refused_text requests_text run_text starts_text taken_text waits_text
whole_summary = ⊤
