use Rattle.kn_tests_cell.specs.Numbers.{IsStill}
use Rattle.kn_tests_cell.proofs.crowd.bring.Given as goal

abbrev pub invariant-loop : goal.invariant-loop
invariant-loop g l = IsStill l.fn.pass l.pass
