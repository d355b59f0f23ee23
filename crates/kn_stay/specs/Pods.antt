-- Whether a setup asks for more pods than there are addresses.
use Rattle.std.specs.Prelude.{ℕ, ◌≢◌, ◌<◌, max}
use Rattle.kn_event.specs.declared.revision.Spec.{Spec}
use Rattle.kn_core.specs.Opening.{first_count}

-- the most pods that it names: those that it opens with, or its max-scale where that is more. A max-scale of 0 is none
abbrev pub named_pods : Spec → ℕ
named_pods s = max (first_count s.kind s) s.max

-- they are more than the addresses. Where there are 0 of these, a pod's number is its address
pub record HasTooMany (addresses : ℕ) (s : Spec) : Type 0 where
  pub some : addresses ≢ 0
  pub more : addresses < named_pods s
