use Rattle.std.proofs.Common.{◌≡◌, ◌+◌}
use Rattle.std.specs.Prelude.{All, vec_len}
use Rattle.kn_tests_cell.specs.Numbers.{IsLeaf}
use Rattle.kn_tests_cell.proofs.passes.close.Given as goal

abbrev pub invariant-loop-worker : goal.invariant-loop-worker
invariant-loop-worker l = record {
  of : l.pass.cell ≡ l.cell;
  free : l.pass.free ≡ 0;
  all : l.pass.passes ≡ vec_len l.fn.workers;
  back : 1 + l.pass.back + vec_len l.workers ≡ vec_len l.fn.workers;
  each : All (λ w. IsLeaf l.cell (vec_len l.fn.workers) w.pass) l.workers.items;
}

abbrev pub decreases-loop-worker : goal.decreases-loop-worker
decreases-loop-worker l = vec_len l.workers
