use Rattle.std.proofs.Common.{◌≡◌, map, take}
use Rattle.kn_plan.proofs.address.copies.Given as goal

abbrev pub invariant-loop-text : goal.invariant-loop-text
invariant-loop-text l = l.copied.items ≡ map (λ t. t.now) (take l.text-index l.texts)
