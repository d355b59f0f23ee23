-- What contracts see of a link.
use Rattle.std.specs.Prelude.{ℕ, List}

-- the addresses of its pods in order, of which pod p has the one at position p modulo their number, and how many faults there were
pub record Reach : Type 0 where
  pub addresses : List (List ℕ)
  pub faults : ℕ
