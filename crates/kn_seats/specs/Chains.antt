-- Chains of cells: the list `next` has, at the place of each cell, the place of the cell behind it.
use Rattle.std.specs.Prelude.{◌≡◌, ℕ, zero, suc, List, [], ◌∷◌, Option, slice_index}

-- where so many steps from a place lead
unfoldable pub after : List ℕ → ℕ → ℕ → ℕ
after next place zero = place
after next place (suc n) = after next (slice_index next place) n

-- the requests in so many cells from a place on
unfoldable pub requests_in : List ℕ → List ℕ → ℕ → ℕ → List ℕ
requests_in request next place zero = []
requests_in request next place (suc n) = slice_index request place ∷ requests_in request next (slice_index next place) n

-- a place is none of so many from another on
unfoldable pub Avoids : List ℕ → ℕ → ℕ → ℕ → Type 0
Avoids next other place zero = Unit {0}
Avoids next other place (suc n) = (place ≡ other → ⊥) × Avoids next other (slice_index next place) n

-- so many from a place on are all different
unfoldable pub AreDistinctSteps : List ℕ → ℕ → ℕ → Type 0
AreDistinctSteps next place zero = Unit {0}
AreDistinctSteps next place (suc n) = Avoids next place (slice_index next place) n × AreDistinctSteps next (slice_index next place) n

-- so many from a place on have this owner
unfoldable pub AreOwned : (ℕ → Option ℕ) → Option ℕ → List ℕ → ℕ → ℕ → Type 0
AreOwned owner who next place zero = Unit {0}
AreOwned owner who next place (suc n) = (owner place ≡ who) × AreOwned owner who next (slice_index next place) n
