use Rattle.kn_tests_cell.specs.Numbers.{IsStill}
use Rattle.kn_tests_cell.proofs.ticks.act_all.Given as goal

abbrev pub invariant-loop-words : goal.invariant-loop-words
invariant-loop-words g l = IsStill l.fn.pass l.pass
