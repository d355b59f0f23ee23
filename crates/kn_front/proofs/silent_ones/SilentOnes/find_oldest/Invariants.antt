use Rattle.std.proofs.Common.{◌≡◌, ℕ, ◌<◌, Some, true}
use Rattle.slab.specs.Slab.{get}
use Rattle.kn_front.specs.declared.silent.Silent.{Silent}
use Rattle.kn_front.specs.Patience.{is_by}
use Rattle.kn_front.proofs.silent_ones.SilentOnes.find_oldest.Given as goal

abbrev pub invariant-loop-place : goal.invariant-loop-place
invariant-loop-place l = record {
  since : (place : ℕ) (one : Silent) → place < l.place → get l.self.ones place ≡ Some one → is_by l.oldest one.since ≡ true;
}
