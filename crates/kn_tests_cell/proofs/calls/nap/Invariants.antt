use Rattle.std.proofs.Common.{◌≡◌}
use Rattle.kn_tests_cell.proofs.calls.nap.Given as goal

abbrev pub invariant-loop : goal.invariant-loop
invariant-loop g l = l.pass ≡ l.fn.pass
