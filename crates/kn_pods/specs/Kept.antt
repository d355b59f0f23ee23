-- What is kept of the pods behind their view: their order, and room.
use Rattle.std.specs.Prelude.{ℕ, ◌+◌, ◌<◌, ◌≤◌, length}
use Rattle.std.specs.List.{All}
use Rattle.kn_pods.specs.Numbers.{NumbersState}

pub record IsKept (created : ℕ) (starting ready draining : NumbersState) : Type 0 where
  pub came : All (λ p. p < created) starting.items
  -- the pods that don't drain
  pub few : length starting.items + length ready.items ≤ 500
  pub starting_room : 500 ≤ starting.room
  pub ready_room : 500 ≤ ready.room
  pub draining_room : 20500 ≤ draining.room
