-- The summary of a run, and what its teller keeps.
use Rattle.std.specs.Prelude.{◌≡◌, ℕ, List, [], ◌++◌, length}
use Rattle.kn_event.specs.Revision.{AreInRange}
use Rattle.kn_teller.specs.Manner.{Manner}
use Rattle.kn_teller.specs.Run.{Run, now_of, trace}
use Rattle.kn_begun.specs.Begun.{waits}
use Rattle.kn_costs.specs.Gauges.{GaugesState, costs, gauges, nothing_at, peaks}
use Rattle.kn_costs.specs.Steps.{cold}
use Rattle.kn_show_summary.specs.Counted.{counted}
use Rattle.kn_show_summary.specs.Rows.{AreRowsOf, RowsState}
use Rattle.kn_show_summary.specs.Text.{pods_text, requests_text, waits_text}

-- all its lines
unfoldable pub summary : Run → List ℕ
summary r =
    requests_text r.start (now_of r) (length r.events) (gauges (trace r)) (counted r.spec (trace r))
    ++ waits_text (waits (trace r))
    ++ pods_text (cold r) (counted r.spec (trace r)) (peaks r) (costs r)

-- it is written at the end alone
abbrev pub summarises : Manner
summarises = record { opens = λ r. []; tells = λ r e. []; ends = λ version r. summary r }

pub record SummaryState : Type 0 where
  pub start : ℕ
  pub gauges : GaugesState
  pub rows : RowsState
  pub cold : ℕ

-- what it keeps before the opening
pub record AwaitsRun (x : SummaryState) (r : Run) : Type 0 where
  pub ranges : AreInRange r.spec
  pub start : x.start ≡ r.start
  pub gauges : x.gauges ≡ nothing_at r.start
  pub cold : x.cold ≡ 0
  pub rows : AreRowsOf x.rows r.spec [] []

-- what it keeps is that of the run
pub record KnowsRun (x : SummaryState) (r : Run) : Type 0 where
  pub ranges : AreInRange r.spec
  pub start : x.start ≡ r.start
  pub clock : x.gauges.clock ≡ now_of r
  pub present : x.gauges.present ≡ gauges (trace r)
  pub peaks : x.gauges.peaks ≡ peaks r
  pub costs : x.gauges.costs ≡ costs r
  pub cold : x.cold ≡ cold r
  pub rows : AreRowsOf x.rows r.spec r.events (trace r)
