-- The lines of the summary.
use Rattle.std.specs.Prelude.{ℕ, List, [], ◌∷◌, ◌++◌, codes, length, Option, None, Some}
use Rattle.std.specs.Fmt.{decimal}
use Rattle.std.specs.List.{sum}
use Rattle.kn_event.specs.Lists.{greatest}
use Rattle.kn_waits.specs.Waits.{percentile}
use Rattle.kn_costs.specs.declared.gauges.Costs.{Costs}
use Rattle.kn_costs.specs.declared.gauges.Now.{Now}
use Rattle.kn_costs.specs.declared.gauges.Peaks.{Peaks}
use Rattle.kn_show_summary.specs.Counted.{Counted}

-- a line: a name with its space, and a number
unfoldable pub figure : List ℕ → ℕ → List ℕ
figure name n = name ++ decimal n ++ 10 ∷ []

-- '-' where there is none
abbrev pub known_text : Option ℕ → List ℕ
known_text None = 45 ∷ []
known_text (Some n) = decimal n

unfoldable pub figure_known : List ℕ → Option ℕ → List ℕ
figure_known name n = name ++ known_text n ++ 10 ∷ []

-- the greatest, where there is one
abbrev pub longest : List ℕ → Option ℕ
longest [] = None
longest (w ∷ ws) = Some (greatest (w ∷ ws))

unfoldable pub run_text : ℕ → ℕ → ℕ → List ℕ
run_text from to events = figure (codes "from ") from ++ figure (codes "to ") to ++ figure (codes "events ") events

unfoldable pub taken_text : ℕ → Counted → List ℕ
taken_text requests t = figure (codes "requests ") requests ++ figure (codes "admitted ") t.admitted ++ figure (codes "direct ") t.direct

unfoldable pub refused_text : Counted → List ℕ
refused_text t = figure (codes "queue-full ") t.queue_full ++ figure (codes "overload ") t.overload

unfoldable pub ended_text : Counted → List ℕ
ended_text t = figure (codes "ok ") t.ok ++ figure (codes "failed ") t.failed ++ figure (codes "expired ") t.expired ++ figure (codes "cancelled ") t.cancelled

unfoldable pub left_text : ℕ → Counted → List ℕ
left_text live t = figure (codes "lost ") t.lost ++ figure (codes "live ") live

-- what became of the requests
unfoldable pub requests_text : ℕ → ℕ → ℕ → Now → Counted → List ℕ
requests_text from to events n t = run_text from to events ++ taken_text n.arrivals t ++ refused_text t ++ ended_text t ++ left_text n.live t

unfoldable pub percentiles_text : List ℕ → List ℕ
percentiles_text ws =
    figure_known (codes "waited-p50 ") (percentile 50 100 ws) ++ figure_known (codes "waited-p90 ") (percentile 90 100 ws)
    ++ figure_known (codes "waited-p99 ") (percentile 99 100 ws) ++ figure_known (codes "waited-p999 ") (percentile 999 1000 ws)

-- how long they had waited that ran
unfoldable pub waits_text : List ℕ → List ℕ
waits_text ws =
    figure (codes "ran ") (length ws) ++ percentiles_text ws ++ figure_known (codes "waited-max ") (longest ws) ++ figure (codes "waited-sum ") (sum ws)

unfoldable pub starts_text : ℕ → Counted → List ℕ
starts_text cold t = figure (codes "cold ") cold ++ figure (codes "wakes ") t.wakes

unfoldable pub decisions_text : Counted → List ℕ
decisions_text t = figure (codes "decisions ") t.decisions ++ figure (codes "no-data ") t.no_data ++ figure (codes "panicking ") t.panicking

unfoldable pub peaks_text : Counted → Peaks → List ℕ
peaks_text t p =
    (figure (codes "pods ") t.pods ++ figure (codes "pods-peak ") p.pods ++ figure (codes "ready-peak ") p.ready)
    ++ figure (codes "held-peak ") p.held ++ figure (codes "live-peak ") p.live

unfoldable pub costs_text : Costs → List ℕ
costs_text t = figure (codes "at-zero-ms ") t.at_zero ++ figure (codes "pod-ms ") t.pods ++ figure (codes "ready-ms ") t.ready ++ figure (codes "running-ms ") t.running

-- the pods, and what they cost
unfoldable pub pods_text : ℕ → Counted → Peaks → Costs → List ℕ
pods_text cold t p k =
    (starts_text cold t ++ decisions_text t) ++ peaks_text t p ++ costs_text k ++ figure (codes "wanted-changes ") t.changes
