-- The text of a line of the series.
use Rattle.std.specs.Prelude.{ℕ, List, [], ◌∷◌, ◌++◌, codes}
use Rattle.std.specs.Fmt.{decimal}
use Rattle.kn_show_series.specs.declared.counts.Counts.{Counts}
use Rattle.kn_show_series.specs.declared.gauges.Gauges.{Gauges}

unfoldable pub header : List ℕ
header = codes "time,ready,starting,draining,wanted,held,queued,running,arrived,refused,ended,failed,expired,decisions,ran,waited,longest,held-peak\n"

-- a number behind a comma
unfoldable pub field : ℕ → List ℕ
field n = 44 ∷ decimal n

abbrev pub pods_text : Gauges → List ℕ
pods_text g = ((field g.ready ++ field g.starting) ++ field g.draining) ++ field g.wanted

abbrev pub requests_text : Gauges → List ℕ
requests_text g = (field g.held ++ field g.queued) ++ field g.running

abbrev pub arrivals_text : Counts → List ℕ
arrivals_text n = field n.arrived ++ field n.refused

abbrev pub ends_text : Counts → List ℕ
ends_text n = (field n.ended ++ field n.failed) ++ field n.expired

abbrev pub begun_text : Counts → List ℕ
begun_text n = ((field n.decisions ++ field n.ran) ++ field n.waited) ++ field n.longest

unfoldable pub gauges_text : Gauges → List ℕ
gauges_text g = pods_text g ++ requests_text g

unfoldable pub counts_text : Counts → List ℕ
counts_text n = (arrivals_text n ++ ends_text n) ++ begun_text n

-- the line of a step that begins at this time
unfoldable pub line_text : ℕ → Gauges → Counts → ℕ → List ℕ
line_text from g n peak = (((decimal from ++ gauges_text g) ++ counts_text n) ++ field peak) ++ 10 ∷ []
