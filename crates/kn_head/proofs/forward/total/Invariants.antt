use Rattle.std.proofs.Common.{◌≡◌, sum, take}
use Rattle.kn_head.proofs.forward.total.Given as goal

abbrev pub invariant-loop-part : goal.invariant-loop-part
invariant-loop-part l = l.all ≡ sum (take l.part-index l.parts)
