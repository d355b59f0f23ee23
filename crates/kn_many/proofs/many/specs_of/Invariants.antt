use Rattle.std.proofs.Common.{◌≡◌, map, take}
use Rattle.kn_many.proofs.many.specs_of.Given as goal

abbrev pub invariant-loop-setup : goal.invariant-loop-setup
invariant-loop-setup l = l.specs.items ≡ map (λ s. s.spec) (take l.setup-index l.setups)
