-- The place past a pod.
use Rattle.std.proofs.Common.{◌≡◌, List, length, map, arith}
use Rattle.std.specs.Prelude.{Bool, not}
use Rattle.std.specs.List.{position, position_or_len}
use Rattle.std.specs.Option.{unwrap_or}
use Rattle.std.proofs.lemmas.Grind.{common_steps}
use Rattle.std.proofs.lemmas.List.Sums.{prefix_len-le-length}

-- the position, or the length where there is none
pub position_else_length : {X Y : Type 0} (test : Y → Bool) (f : X → Y) (xs : List X) → unwrap_or (position test (map f xs)) (length xs) ≡ position_or_len test (map f xs)
position_else_length test f xs = grind (arith, common_steps, prefix_len-le-length (λ y. not (test y)) (map f xs))
