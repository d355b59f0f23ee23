-- The least number of a list that is not below a bound.
use Rattle.std.specs.Prelude.{◌≡◌, ◌≤◌, ◌<◌, ◌↔◌, ℕ, true, List, Option, None, Some}
use Rattle.kn_event.specs.Lists.{contains}

pub record IsLeastFrom (from : ℕ) (all : List ℕ) (next : Option ℕ) : Type 0 where
  -- one of them, not below the bound
  pub found : (p : ℕ) → next ≡ Some p → (contains p all ≡ true) × (from ≤ p)
  -- no other that isn't below the bound is less
  pub least : (p : ℕ) → next ≡ Some p → (q : ℕ) → contains q all ≡ true → from ≤ q → p ≤ q
  -- none exactly where all are below the bound
  pub none : (next ≡ None) ↔ ((q : ℕ) → contains q all ≡ true → q < from)
