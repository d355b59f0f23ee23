-- The Ready pods as a load-balancing policy sees them.
use Rattle.std.specs.Prelude.{◌≡◌, ℕ, ◌<◌, ◌+◌, ◌-◌, ◌^◌, ◌==◌, List, map, min, if◌then◌else◌}
use Rattle.std.specs.List.{All, count_by, sum_by}
use Rattle.kn_trace.specs.declared.candidate.Cand.{Cand}
use Rattle.kn_trace.specs.Capacity.{seats_of}
use Rattle.kn_trace.specs.Choice.{has_seat}
use Rattle.kn_policy.specs.Marks.{marks_of}

abbrev pub changed_at : ℕ → (Cand → Cand) → Cand → Cand
changed_at p change k = if k.pod == p then change k else k

-- the one of pod p is changed
abbrev pub with_changed : ℕ → (Cand → Cand) → List Cand → List Cand
with_changed p change cands = map (changed_at p change) cands

-- one more runs there, or one less; or it has another limit
abbrev pub begun : Cand → Cand
begun k = record k { running = k.running + 1 }

abbrev pub ended : Cand → Cand
ended k = record k { running = k.running - 1 }

abbrev pub limited : ℕ → Cand → Cand
limited n k = record k { limit = n }

-- how many may run at all of them, of this maximum
abbrev pub capacity_of : ℕ → List Cand → ℕ
capacity_of most cands = min most (sum_by (λ (k : Cand). seats_of most k.limit) cands)

-- the sum of their limits
abbrev pub limits_in : List Cand → ℕ
limits_in cands = sum_by (λ (k : Cand). k.limit) cands

-- 1 where it has no limit, and how many have none
abbrev pub unlimited_of : Cand → ℕ
unlimited_of k = if k.limit == 0 then 1 else 0

abbrev pub unlimited_in : List Cand → ℕ
unlimited_in cands = count_by (λ (k : Cand). k.limit == 0) cands

-- their marks, how many have a free seat, the sum of their limits, and how many have none
pub record AreCounted (cands : List Cand) (marks : List ℕ) (free limits none : ℕ) : Type 0 where
  pub marked : marks ≡ marks_of cands
  pub seats : free ≡ count_by has_seat cands
  pub sum : limits ≡ limits_in cands
  pub unlimited : none ≡ unlimited_in cands
  pub in_range : All (λ (k : Cand). k.limit < 2 ^ 64) cands
