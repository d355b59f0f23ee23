use Rattle.std.proofs.Common.{◌≡◌, ◌++◌, drop, flat_map}
use Rattle.kn_plan.proofs.stay_error.joined.Given as goal

-- what is there, and what the parts left still give
abbrev pub invariant-loop-part : goal.invariant-loop-part
invariant-loop-part l = l.bytes.items ++ flat_map (λ p. p.now) (drop l.part-index l.part-items) ≡ flat_map (λ p. p.now) l.fn.parts
