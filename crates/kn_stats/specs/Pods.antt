-- What is kept of each pod, in the order of their numbers.
use Rattle.std.specs.Prelude.{ℕ, Bool, true, false, ◌+◌, ◌-◌, ◌*◌, ◌<◌, ◌≤◌, ◌==◌, nat_lt, List, [], ◌∷◌, ⊤, if◌then◌else◌}
use Rattle.kn_stats.specs.declared.change.Change.{Change}
use Rattle.kn_stats.specs.declared.change.Change.TheVariants as change
use Rattle.kn_stats.specs.declared.tally.Tally.{Tally}
use Rattle.kn_stats.specs.declared.tally.PodTally.{PodTally}
use Rattle.kn_stats.specs.Changes.{ends_assigned, ends_directed, is_assigned, is_directed}

-- ---- one count and what it comes to

abbrev pub no_tally : Tally
no_tally = record { count = 0; area = 0 }

-- one begins with so much of the second left, or one ends, or neither
abbrev pub tally_after : Bool → Bool → ℕ → Tally → Tally
tally_after begins ends left t =
    if begins then record { count = t.count + 1; area = t.area + left } else (if ends then record { count = t.count - 1; area = t.area - left } else t)

-- in a new second all are there from its begin
abbrev pub anew : Tally → Tally
anew t = record { count = t.count; area = 1000 * t.count }

abbrev pub anew_if : Bool → Tally → Tally
anew_if is_new t = if is_new then anew t else t

-- what was taken with so much of the second left
abbrev pub so_far : ℕ → Tally → ℕ
so_far left t = t.area - t.count * left

-- ---- pods

abbrev pub idle : ℕ → PodTally
idle p = record { number = p; second = 0; direct = no_tally; proxied = no_tally }

-- what is kept of a pod, as it is in this second
abbrev pub fresh : ℕ → PodTally → PodTally
fresh second q =
    let is_new = nat_lt q.second second in
    record { number = q.number; second = second; direct = anew_if is_new q.direct; proxied = anew_if is_new q.proxied }

-- pod p, idle where it isn't there
abbrev pub found : ℕ → List PodTally → PodTally
found p [] = idle p
found p (q ∷ qs) = if q.number == p then q else found p qs

-- pod p is changed, or put in at its place
abbrev pub put : ℕ → (PodTally → PodTally) → List PodTally → List PodTally
put p by [] = by (idle p) ∷ []
put p by (q ∷ qs) = if q.number == p then by q ∷ qs else (if nat_lt p q.number then by (idle p) ∷ q ∷ qs else q ∷ put p by qs)

abbrev pub without_pod : ℕ → List PodTally → List PodTally
without_pod p [] = []
without_pod p (q ∷ qs) = if q.number == p then qs else q ∷ without_pod p qs

-- a change that names this pod
abbrev pub pod_after : ℕ → ℕ → Change → PodTally → PodTally
pod_after second left c q =
    let f = fresh second q in
    record {
      number = q.number;
      second = second;
      direct = tally_after (is_directed c) (ends_directed c) left f.direct;
      proxied = tally_after (is_assigned c) (ends_assigned c) left f.proxied;
    }

-- a request of the kind that the change ends is at the pod, if it ends one there
abbrev pub CanEnd : Change → PodTally → Type 0
CanEnd (change.EndedAt p true) q = 0 < q.proxied.count
CanEnd (change.EndedAt p false) q = 0 < q.direct.count
CanEnd _ q = ⊤

-- each number is above this one, and they rise
abbrev pub AreAbove : ℕ → List PodTally → Type 0
AreAbove p [] = ⊤
AreAbove p (q ∷ qs) = (p < q.number) × AreAbove q.number qs

abbrev pub IsSorted : List PodTally → Type 0
IsSorted [] = ⊤
IsSorted (q ∷ qs) = AreAbove q.number qs

-- ---- bounds, with so much of the second left

pub record IsSmall (left : ℕ) (t : Tally) : Type 0 where
  pub count : t.count ≤ 20000
  pub least : t.count * left ≤ t.area
  pub most : t.area + 20000 * left ≤ 20000000 + t.count * left

pub record IsSmallPod (open_second left : ℕ) (q : PodTally) : Type 0 where
  pub second : q.second ≤ open_second
  pub direct : IsSmall left (fresh open_second q).direct
  pub proxied : IsSmall left (fresh open_second q).proxied
