use Rattle.std.proofs.Common.{rules}
use Rattle.std.proofs.lemmas.Int.{ints}
use Rattle.kn_num.proofs.Quotients.{floor_greatest}
use Rattle.kn_num.proofs.quotient.floor_div.Goals as goal

pub returns-clause-greatest : goal.returns-clause-greatest
returns-clause-greatest c q fits = let e = floor_greatest c.args.a q c.args.b c.requires.positive fits in search (rules, ints)
