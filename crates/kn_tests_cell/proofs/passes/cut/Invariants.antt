use Rattle.std.proofs.Common.{◌≡◌, ◌+◌, ◌-◌, ◌≤◌}
use Rattle.std.specs.Prelude.{All, vec_len, vec_capacity}
use Rattle.kn_tests_cell.specs.Numbers.{IsFor, IsLeaf}
use Rattle.kn_tests_cell.proofs.passes.cut.Given as goal

abbrev pub invariant-loop-workers : goal.invariant-loop-workers
invariant-loop-workers l = record {
  of : l.first.cell ≡ l.cell;
  back : l.first.back ≡ 0;
  all : l.first.passes ≡ l.plan.passes;
  may : IsFor l.plan.lasts l.plan.room l.first;
  free : l.first.free + vec_len l.workers ≡ l.others;
  few : vec_len l.workers ≤ l.others;
  wide : l.plan.passes ≤ vec_capacity l.workers;
  each : All (λ w. IsLeaf l.cell l.plan.passes w.pass) l.workers.items;
}

abbrev pub decreases-loop-workers : goal.decreases-loop-workers
decreases-loop-workers l = l.others - vec_len l.workers
