use Rattle.std.proofs.Common.{take}
use Rattle.kn_table.specs.Links.{AreLinked}
use Rattle.kn_table.proofs.links.Links.link_all.Given as goal

abbrev pub invariant-loop-at : goal.invariant-loop-at
invariant-loop-at l = AreLinked l.self (take l.at l.slots)
