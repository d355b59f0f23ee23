use Rattle.std.proofs.Common.{◌≡◌, ◌+◌, take}
use Rattle.std.specs.List.{sum}
use Rattle.kn_policy.proofs.nth.pass_marks.Given as goal

abbrev pub invariant-loop-i : goal.invariant-loop-i
invariant-loop-i l = sum (take l.i l.marks) + l.left ≡ sum (take l.fn.from.place l.marks) + l.fn.from.left
