-- The families of metrics.
use Rattle.std.specs.Prelude.{ℕ, List, codes}
use Rattle.kn_page.specs.declared.metric.Metric.{Metric}
use Rattle.kn_page.specs.declared.metric.Metric.TheVariants as metric

abbrev pub metric_name : Metric → List ℕ
metric_name metric.Rows = codes "kactd_rows_total"
metric_name metric.Recorded = codes "kactd_rows_recorded_total"
metric_name metric.Unprinted = codes "kactd_rows_unprinted"
metric_name metric.Pods = codes "kactd_pods"
metric_name metric.Wanted = codes "kactd_pods_wanted"
metric_name metric.Requests = codes "kactd_requests"
metric_name metric.Waiting = codes "kactd_connections_waiting"
metric_name metric.AtWork = codes "kactd_slots_at_work"
metric_name metric.Stable = codes "kactd_decision_stable"
metric_name metric.Panic = codes "kactd_decision_panic"
metric_name metric.Want = codes "kactd_decision_want"

-- what a family says, in words
abbrev pub metric_help : Metric → List ℕ
metric_help metric.Rows = codes "Rows of the report since the server began, by kind."
metric_help metric.Recorded = codes "Rows of the journal recorded since the server began."
metric_help metric.Unprinted = codes "Recorded rows of the journal that are not handed to the printer yet."
metric_help metric.Pods = codes "Live pods, by state."
metric_help metric.Wanted = codes "Pods wanted by the last decision, or by the setup before the first."
metric_help metric.Requests = codes "Live requests, by state."
metric_help metric.Waiting = codes "Connections that wait for a slot."
metric_help metric.AtWork = codes "Slots at work."
metric_help metric.Stable = codes "Requests over the stable window at the last decision, on average, rounded down."
metric_help metric.Panic = codes "Requests over the panic window at the last decision, on average, rounded down."
metric_help metric.Want = codes "Pods wanted by the last decision."

-- a counter never falls; a gauge may
abbrev pub metric_type : Metric → List ℕ
metric_type metric.Rows = codes "counter"
metric_type metric.Recorded = codes "counter"
metric_type _ = codes "gauge"
