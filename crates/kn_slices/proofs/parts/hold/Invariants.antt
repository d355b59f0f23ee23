use Rattle.std.proofs.Common.{◌≡◌, take, max}
use Rattle.std.specs.List.{sum_by}
use Rattle.kn_slices.specs.Activators.{limit_at, running_at}
use Rattle.kn_slices.proofs.parts.hold.Given as goal

abbrev pub invariant-loop-part : goal.invariant-loop-part
invariant-loop-part l = l.total ≡ sum_by (λ a. max (limit_at l.p a) (running_at l.p a)) (take l.part-index l.parts)
