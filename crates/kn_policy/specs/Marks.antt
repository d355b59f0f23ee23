-- Ready pods with a mark for each, which says whether it has a free seat.
use Rattle.std.specs.Prelude.{◌≡◌, ℕ, ◌<◌, ◌≤◌, List, length, map, take, Option, None, Some, if◌then◌else◌}
use Rattle.std.specs.List.{AllPairs, HoldsAt, sum}
use Rattle.kn_trace.specs.declared.candidate.Cand.{Cand}
use Rattle.kn_trace.specs.Choice.{has_seat}

-- the numbers of their pods ascend
abbrev pub AreAscending : List Cand → Type 0
AreAscending cands = AllPairs (λ (j k : Cand). j.pod < k.pod) cands

-- 1 where the pod has a free seat, and else 0
abbrev pub mark_of : Cand → ℕ
mark_of k = if has_seat k then 1 else 0

abbrev pub marks_of : List Cand → List ℕ
marks_of cands = map mark_of cands

-- the place of the pod that is chosen, and none where none is
abbrev pub IsPlaceOf : Option ℕ → List Cand → Option ℕ → Type 0
IsPlaceOf pod cands None = pod ≡ None
IsPlaceOf pod cands (Some i) = (i < length cands) × HoldsAt (λ (k : Cand). pod ≡ Some k.pod) cands i

-- the place of the 1 that so many others stand before, and none where there are no more than those, of marks 0 and 1
abbrev pub IsPlaceOfMark : ℕ → List ℕ → Option ℕ → Type 0
IsPlaceOfMark n marks None = sum marks ≤ n
IsPlaceOfMark n marks (Some i) = (i < length marks) × HoldsAt (λ m. m ≡ 1) marks i × (sum (take i marks) ≡ n)
