use Rattle.std.proofs.Common.{◌≡◌, take}
use Rattle.std.specs.List.{sum_by}
use Rattle.kn_slices.specs.Activators.{running_at}
use Rattle.kn_slices.proofs.parts.runs.Given as goal

abbrev pub invariant-loop-part : goal.invariant-loop-part
invariant-loop-part l = l.total ≡ sum_by (running_at l.p) (take l.part-index l.parts)
