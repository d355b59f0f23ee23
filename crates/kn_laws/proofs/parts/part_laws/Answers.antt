use Rattle.kn_laws.proofs.Acts.{act-facts, act-rows, are_by_act, removals-rows}
use Rattle.kn_laws.proofs.History.{react-at}
use Rattle.kn_laws.proofs.Inert.{draining_runs}
use Rattle.kn_laws.proofs.Phases.{none-rows}
use Rattle.kn_laws.proofs.Rows.{Each-append, Each-weaken, run_pods, assign_pods, draining-each, expiries-rows, departures-rows, departures-same, scaler-rows, activation-rows, promotions-rows, assignments-rows, removed-rows}
use Rattle.kn_laws.proofs.Settles.{opening_none}
use Rattle.kn_laws.proofs.parts.part_laws.Goals as goal

pub returns : goal.returns
returns c = record {
  each = record { Each-append = Each-append; Each-weaken = Each-weaken; none-rows = none-rows; run_pods = run_pods c.fact_laws.ensures; assign_pods = assign_pods c.fact_laws.ensures; draining-each = draining-each c.fact_laws.ensures };
  rows = record { expiries-rows = expiries-rows; departures-rows = departures-rows; departures-same = departures-same; act-facts = act-facts; act-rows = act-rows; are_by_act = are_by_act; scaler-rows = scaler-rows; activation-rows = activation-rows; promotions-rows = promotions-rows; assignments-rows = assignments-rows; removed-rows = removed-rows; removals-rows = removals-rows; react-at = react-at; opening_none = opening_none; draining_runs = draining_runs c.fact_laws.ensures };
}
