use Rattle.std.proofs.Common.{◌≡◌, ◌≤◌, []}
use Rattle.std.specs.Prelude.{vec_capacity}
use Rattle.kn_tests_cell.specs.Numbers.{IsStill}
use Rattle.kn_tests_cell.proofs.crowd.take_all.Given as goal

abbrev pub invariant-loop : goal.invariant-loop
invariant-loop g l = record {
  scribe : IsStill l.fn.pass l.pass;
  empty : l.rows.items ≡ [];
  room : l.fn.pass.room ≤ vec_capacity l.rows;
}
