use Rattle.std.proofs.Common.{◌≡◌, ◌≤◌, ◌+◌, ◌-◌, length, take}
use Rattle.std.specs.List.{sum}
use Rattle.kn_policy.proofs.nth.pass_chunks.Given as goal

abbrev pub invariant-chunks : goal.invariant-chunks
invariant-chunks g l = record {
  inside : l.place ≤ length l.marks;
  passed : sum (take l.place l.marks) + l.left ≡ sum (take l.fn.from.place l.marks) + l.fn.from.left;
}

abbrev pub decreases-chunks : goal.decreases-chunks
decreases-chunks g l = length l.marks - l.place
