-- All passes of a cell.
use Rattle.std.specs.Prelude.{ℕ, ◌≡◌, List, All, length}
use Rattle.atomic_table.specs.Seated.{TableId}
use Rattle.kn_tests_cell.specs.declared.worker.Worker.{Worker}
use Rattle.kn_tests_cell.specs.Numbers.{IsLeaf}

-- they are so many, each for itself
abbrev pub AreLeaves : TableId → ℕ → List Worker → Type 0
AreLeaves cell n ws = (length ws ≡ n) × All (λ w. IsLeaf cell n w.pass) ws
