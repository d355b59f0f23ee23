-- How long requests waited.
use Rattle.std.specs.Prelude.{◌≡◌, ℕ, ◌+◌, ◌*◌, ◌<◌, ◌≤◌, ◌^◌, Bool, ◌==◌, nat_le, List, [], ◌∷◌, ◌++◌, length, Option, None, Some, slice_index}
use Rattle.std.specs.List.{All, count_by, find, range_with_len, sum}
use Rattle.kn_event.specs.Lists.{greatest}

abbrev pub count_up_to : ℕ → List ℕ → ℕ
count_up_to w ws = count_by (λ v. nat_le v w) ws

-- at least q of n waited at most w
abbrev pub is_enough : ℕ → ℕ → List ℕ → ℕ → Bool
is_enough q n ws w = nat_le (q * length ws) (n * count_up_to w ws)

-- the least such w, where anybody waited
unfoldable pub percentile : ℕ → ℕ → List ℕ → Option ℕ
percentile q n [] = None
percentile q n (w ∷ ws) = find (is_enough q n (w ∷ ws)) (range_with_len 0 (greatest (w ∷ ws) + 1))

-- of all numbers the least that is enough
abbrev pub IsLeastEnough : ℕ → ℕ → List ℕ → Option ℕ → Type 0
IsLeastEnough q n ws None = ⊥
IsLeastEnough q n ws (Some w) = (q * length ws ≤ n * count_up_to w ws) × ((v : ℕ) → v < w → n * count_up_to v ws < q * length ws)

-- what is kept: how many waited just so many milliseconds, how many there were, their sum and the longest
pub record WaitsState : Type 0 where
  pub counters : List ℕ
  pub ran : ℕ
  pub sum : ℕ
  pub longest : ℕ

-- it is that of these, each below the limit
pub record AreWaits (x : WaitsState) (ws : List ℕ) : Type 0 where
  pub each : (w : ℕ) → w < length x.counters → slice_index x.counters w ≡ count_by (λ v. v == w) ws
  pub below : All (λ v. v < length x.counters) ws
  pub few : length ws < 2 ^ 64
  pub ran : x.ran ≡ length ws
  pub sum : x.sum ≡ sum ws
  pub longest : x.longest ≡ greatest ws

-- one more waited so long, where it counts those that have waited
abbrev pub AddsWait : ℕ → WaitsState → WaitsState → Type 0
AddsWait wait old new = (ws : List ℕ) → AreWaits old ws → length ws + 1 < 2 ^ 64 → AreWaits new (ws ++ wait ∷ [])
