-- What is told of a caller, whose connections come one after another.
use Rattle.std.specs.Prelude.{◌≡◌, ℕ, ◌+◌, List, [], ◌∷◌, ◌++◌, length, Bool, true, false, Option, None, Some, option_map, ⊤}

-- texts, and one more after them, where both are told
abbrev pub followed : Option (List (List ℕ)) → Option (List ℕ) → Option (List (List ℕ))
followed None text = None
followed (Some texts) None = None
followed (Some texts) (Some text) = Some (texts ++ text ∷ [])

-- the texts that are told are an even number
abbrev pub IsPaired : Option (List (List ℕ)) → Type 0
IsPaired None = ⊤
IsPaired (Some texts) = (n : ℕ) × (length texts ≡ n + n)

-- where texts are told, the input is told too
abbrev pub IsHeard : Option (List (List ℕ)) → Option (List ℕ) → Type 0
IsHeard None left = ⊤
IsHeard (Some texts) None = ⊥
IsHeard (Some texts) (Some input) = ⊤

-- these bytes, where bytes are told
abbrev pub told_as : List ℕ → Option (List ℕ) → Option (List ℕ)
told_as bytes known = option_map (λ _. bytes) known

-- a connection with this input was taken: kept gains what was held and then the input, nothing is held, and the
-- input is left
pub record Takes (kept kept' : Option (List (List ℕ))) (held held' left left' : Option (List ℕ)) (input : List ℕ) : Type 0 where
  pub grown : kept' ≡ followed (followed kept held) (Some input)
  pub emptied : held' ≡ told_as [] held
  pub filled : left' ≡ told_as input left

-- a connection was taken
abbrev pub Meets : Option (List (List ℕ)) → Option (List (List ℕ)) → Option (List ℕ) → Option (List ℕ) → Option (List ℕ) → Option (List ℕ) → Type 0
Meets kept kept' held held' left left' = (input : List ℕ) × Takes kept kept' held held' left left' input

-- every second member: from the first on, or from the second on
unfoldable pub every_second : Bool → List (List ℕ) → List (List ℕ)
every_second first [] = []
every_second true (x ∷ xs) = x ∷ every_second false xs
every_second false (x ∷ xs) = every_second true xs

-- what a caller's texts are: the members of kept at even places, counted from 0, and then what is held
abbrev pub texts_of : List (List ℕ) → List ℕ → List (List ℕ)
texts_of kept held = every_second true kept ++ held ∷ []

-- what a caller's streams are: the members of kept at odd places
abbrev pub streams_of : List (List ℕ) → List (List ℕ)
streams_of kept = every_second false kept
