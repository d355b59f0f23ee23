-- Names with the places of revisions, as the map of a directory has them.
use Rattle.std.specs.Prelude.{◌≡◌, ℕ, Bool, List, [], ◌∷◌, ◌++◌, Option, map, position, bytes_eq, ◌&&◌, is_some, if◌then◌else◌}
use Rattle.std.specs.Map.{lookup}
use Rattle.kn_event.specs.declared.revision.Spec.{Spec}
use Rattle.kn_directory.specs.declared.directory.Key.{Key}

-- this is the name
abbrev pub is_this_name : List ℕ → List ℕ → List ℕ × List ℕ → Bool
is_this_name namespace name p = bytes_eq namespace p.0 && bytes_eq name p.1

-- an entry of the map, as it is seen
abbrev pub named_entry : Key × ℕ → (List ℕ × List ℕ) × ℕ
named_entry e = ((e.0.namespace.items, e.0.name.items), e.1)

-- the place that stands at a name
abbrev pub place_at_name : List ((List ℕ × List ℕ) × ℕ) → List ℕ → List ℕ → Option ℕ
place_at_name entries namespace name = lookup (is_this_name namespace name) entries

-- the entries with one more, where none stands at its name
abbrev pub with_place : List ((List ℕ × List ℕ) × ℕ) → List ℕ → List ℕ → ℕ → List ((List ℕ × List ℕ) × ℕ)
with_place entries namespace name v =
    if is_some (place_at_name entries namespace name) then entries else entries ++ ((namespace, name), v) ∷ []

-- the names of specifications, in their order
abbrev pub spec_names : List Spec → List (List ℕ × List ℕ)
spec_names specs = map (λ (s : Spec). (s.namespace, s.name)) specs

-- each name stands at the place of the first specification that has it, and at none where none has
pub record Finds (entries : List ((List ℕ × List ℕ) × ℕ)) (specs : List Spec) : Type 0 where
  pub at : (namespace name : List ℕ) → place_at_name entries namespace name ≡ position (is_this_name namespace name) (spec_names specs)
