-- The delay before fewer pods are asked for. Lists of decisions have the latest first.
use Rattle.std.specs.Prelude.{ℕ, Bool, ◌-◌, nat_lt, max, List, [], ◌∷◌, map}
use Rattle.std.specs.List.{filter}
use Rattle.kn_event.specs.Lists.{greatest}
use Rattle.kn_scaling.specs.declared.delay.Asked.{Asked}

-- whether that one lies less than the delay before this second
abbrev pub is_recent : ℕ → ℕ → Asked → Bool
is_recent delay second a = nat_lt (second - a.second) delay

-- the greatest of these counts that lie less than the delay before this second
unfoldable pub recent_count : ℕ → ℕ → List Asked → ℕ
recent_count delay second earlier = greatest (map (λ a. a.count) (filter (is_recent delay second) earlier))

-- the greatest count of less than the delay's seconds before the first of the list, its own included; its own alone
-- with a delay of 0
unfoldable pub delayed_count : ℕ → List Asked → ℕ
delayed_count delay [] = 0
delayed_count delay (a ∷ earlier) = max a.count (recent_count delay a.second earlier)

-- so many pods were asked for in this second
abbrev pub asked_at : ℕ → ℕ → Asked
asked_at second count = record { second = second; count = count }
