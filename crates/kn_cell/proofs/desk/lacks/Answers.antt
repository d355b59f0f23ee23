use Rattle.std.proofs.Common.{arith, ltb-true, ltb-false}
use Rattle.kn_cell.proofs.Needs.{need_small}
use Rattle.kn_cell.proofs.desk.lacks.Goals as goal

pub returns-then-left-ge2-clause-no : goal.returns-then-left-ge2-clause-no
returns-then-left-ge2-clause-no c is t s = let small = need_small t c.args.act.now in omega arith

pub returns-clause-yes : goal.returns-clause-yes
returns-clause-yes c is t s = let n = c.need.ensures.value t s in let less = ltb-true _ _ is in omega arith

pub returns-clause-no : goal.returns-clause-no
returns-clause-no c is t s = let n = c.need.ensures.value t s in let most = ltb-false _ _ is in omega arith
