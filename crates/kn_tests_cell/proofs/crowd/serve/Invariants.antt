use Rattle.kn_tests_cell.specs.Numbers.{IsStill}
use Rattle.kn_tests_cell.proofs.crowd.serve.Given as goal

abbrev pub invariant-loop-i : goal.invariant-loop-i
invariant-loop-i g l = IsStill l.fn.pass l.pass
