-- Which faults are told one by one, and how many in counts. Faults are listed by the seconds in which they came, the last one first.
use Rattle.std.specs.Prelude.{◌≡◌, ◌≤◌, ◌<◌, ◌+◌, ◌^◌, ◌==◌, ℕ, nat_lt, min, Bool, true, false, List, [], ◌∷◌, length, filter, All}
use Rattle.kn_faults.specs.declared.limiter.Limiter.{Limiter}

abbrev pub most_a_second : ℕ
most_a_second = 10

-- how many came in this second
abbrev pub faults_in : ℕ → List ℕ → ℕ
faults_in second faults = length (filter (λ s. s == second) faults)

-- one that comes in this second after these is told by a line of its own: fewer than ten came in it
abbrev pub is_lone : ℕ → List ℕ → Bool
is_lone second before = nat_lt (faults_in second before) most_a_second

abbrev pub number : Bool → ℕ
number true = 1
number false = 0

-- how many are told by lines of their own
unfoldable pub lone : List ℕ → ℕ
lone [] = 0
lone (second ∷ before) = number (is_lone second before) + lone before

-- It has heard of these faults, and so many of them were told in counts. Each is told by a line of its own, or in a count, or in none so far.
pub record Stands (l : Limiter) (faults : List ℕ) (counted : ℕ) : Type 0 where
  pub order : All (λ s. s ≤ l.second) faults
  pub here : l.lone ≡ min most_a_second (faults_in l.second faults)
  pub once : length faults < 2 ^ 64 → (lone faults + counted) + l.untold ≡ length faults
