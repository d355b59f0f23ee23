-- Which pods may have something to do.
use Rattle.std.specs.Prelude.{◌≡◌, ℕ, Bool, true, false, ◌==◌, List, if◌then◌else◌, ⊤}
use Rattle.std.specs.List.{All}
use Rattle.kn_event.specs.Lists.{contains}
use Rattle.kn_record.specs.declared.admission.Pod.{Pod}
use Rattle.kn_record.specs.Views.{pod_numbers}
use Rattle.kn_throttle.specs.declared.touched.Touched.{Touched}
use Rattle.kn_throttle.specs.declared.touched.Touched.TheVariants.{Nowhere, At, Anywhere}

abbrev pub is_touched : ℕ → Touched → Bool
is_touched p Nowhere = false
is_touched p (At q) = q == p
is_touched p Anywhere = true

-- pod p too
abbrev pub one_more : ℕ → Touched → Touched
one_more p Nowhere = At p
one_more p (At q) = if q == p then At q else Anywhere
one_more p Anywhere = Anywhere

-- pod p is gone
abbrev pub one_less : ℕ → Touched → Touched
one_less p Nowhere = Nowhere
one_less p (At q) = if q == p then Nowhere else At q
one_less p Anywhere = Anywhere

-- the pod that is named is one of these
abbrev pub IsOneOf : List ℕ → Touched → Type 0
IsOneOf ps (At p) = contains p ps ≡ true
IsOneOf ps _ = ⊤

-- each pod with something to do is touched, and the pod that is named is there
pub record Covers (busy : Pod → Bool) (all : List Pod) (touched : Touched) : Type 0 where
  pub others : All (λ (q : Pod). is_touched q.number touched ≡ false → busy q ≡ false) all
  pub named : IsOneOf (pod_numbers all) touched
