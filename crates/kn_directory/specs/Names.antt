-- Revisions by namespace and name.
use Rattle.std.specs.Prelude.{◌≡◌, ◌<◌, ℕ, List, length, slice_index_or}
use Rattle.kn_event.specs.declared.revision.Spec.{Spec}

-- the revision has this name
pub record HasName (spec : Spec) (its_namespace its_name : List ℕ) : Type 0 where
  pub namespace : its_namespace ≡ spec.namespace
  pub name : its_name ≡ spec.name

-- no revision has it
abbrev pub NoneHasName : List Spec → List ℕ → List ℕ → Type 0
NoneHasName specs namespace name = (v : ℕ) (d : Spec) → v < length specs → HasName (slice_index_or specs v d) namespace name → ⊥

-- revision v has it, and none before that
pub record IsFirstNamed (specs : List Spec) (v : ℕ) (namespace name : List ℕ) : Type 0 where
  pub inside : v < length specs
  pub spec : Spec
  pub spec_is : (d : Spec) → slice_index_or specs v d ≡ spec
  pub names : HasName spec namespace name
  pub first : (u : ℕ) (d : Spec) → u < v → HasName (slice_index_or specs u d) namespace name → ⊥
