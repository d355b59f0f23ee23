-- What a change needs, said of each count that it changes.
use Rattle.std.proofs.Common.{◌≡◌, refl, ap, ℕ, ◌+◌, ◌≤◌, ◌<◌, true, false, length, arith}
use Rattle.std.specs.Prelude.{Some}
use Rattle.kn_stats.specs.declared.change.Change.{Change}
use Rattle.kn_stats.specs.declared.change.Change.TheVariants as change
use Rattle.kn_stats.specs.declared.tally.PodTally.{PodTally}
use Rattle.kn_stats.specs.Changes.{ends_admitted, ends_assigned, ends_directed, ends_waiting, is_admitted, is_assigned, is_directed, pod_of}
use Rattle.kn_stats.specs.Pods.{CanEnd, found, put}
use Rattle.kn_stats.specs.Totals.{CanCount, IsBounded, TotalsState, live_of}
use Rattle.kn_stats.specs.Stands.{CanChange, HasRoom, IsWithin, StatsState, totals_in}
use Rattle.kn_stats.proofs.Table.{found-sum, length-there}

-- ---- no change is of both kinds

pub apart_admitted : (c : Change) → is_admitted c ≡ true → ends_admitted c ≡ false
apart_admitted change.Admitted h = refl
apart_admitted (change.Assigned p) h = refl
apart_admitted (change.Directed p) h = refl
apart_admitted change.EndedHeld h = absurd (cc)
apart_admitted (change.EndedAt p proxied) h = absurd (cc)

pub apart_waiting : (c : Change) → is_admitted c ≡ true → ends_waiting c ≡ false
apart_waiting change.Admitted h = refl
apart_waiting (change.Assigned p) h = absurd (cc)
apart_waiting (change.Directed p) h = refl
apart_waiting change.EndedHeld h = absurd (cc)
apart_waiting (change.EndedAt p proxied) h = refl

pub apart_directed : (c : Change) → is_directed c ≡ true → ends_directed c ≡ false
apart_directed change.Admitted h = refl
apart_directed (change.Assigned p) h = refl
apart_directed (change.Directed p) h = refl
apart_directed change.EndedHeld h = refl
apart_directed (change.EndedAt p proxied) h = absurd (cc)

pub apart_assigned : (c : Change) → is_assigned c ≡ true → ends_assigned c ≡ false
apart_assigned change.Admitted h = refl
apart_assigned (change.Assigned p) h = refl
apart_assigned (change.Directed p) h = refl
apart_assigned change.EndedHeld h = refl
apart_assigned (change.EndedAt p proxied) h = absurd (cc)

pub apart_starts : (c : Change) → is_admitted c ≡ true → is_directed c ≡ false
apart_starts change.Admitted h = refl
apart_starts (change.Assigned p) h = refl
apart_starts (change.Directed p) h = absurd (cc)
apart_starts change.EndedHeld h = refl
apart_starts (change.EndedAt p proxied) h = refl

pub apart_ends : (c : Change) → ends_admitted c ≡ true → ends_directed c ≡ false
apart_ends change.Admitted h = refl
apart_ends (change.Assigned p) h = refl
apart_ends (change.Directed p) h = refl
apart_ends change.EndedHeld h = refl
apart_ends (change.EndedAt p true) h = refl
apart_ends (change.EndedAt p false) h = absurd (cc)

pub apart_arrivals : (c : Change) → is_directed c ≡ true → is_assigned c ≡ false
apart_arrivals change.Admitted h = refl
apart_arrivals (change.Assigned p) h = absurd (cc)
apart_arrivals (change.Directed p) h = refl
apart_arrivals change.EndedHeld h = refl
apart_arrivals (change.EndedAt p proxied) h = refl

pub apart_pod_ends : (c : Change) → ends_directed c ≡ true → ends_assigned c ≡ false
apart_pod_ends change.Admitted h = refl
apart_pod_ends (change.Assigned p) h = refl
apart_pod_ends (change.Directed p) h = refl
apart_pod_ends change.EndedHeld h = refl
apart_pod_ends (change.EndedAt p true) h = absurd (cc)
apart_pod_ends (change.EndedAt p false) h = refl

-- ---- the totals

module _ (t : TotalsState) (bounded : IsBounded t) where
  pub few_admitted : (c : Change) → CanCount t c → is_admitted c ≡ true → live_of t < 20000
  few_admitted change.Admitted can h = can
  few_admitted (change.Assigned p) can h = absurd (cc)
  few_admitted (change.Directed p) can h = absurd (cc)
  few_admitted change.EndedHeld can h = absurd (cc)
  few_admitted (change.EndedAt p proxied) can h = absurd (cc)

  pub few_directed : (c : Change) → CanCount t c → is_directed c ≡ true → live_of t < 20000
  few_directed change.Admitted can h = absurd (cc)
  few_directed (change.Assigned p) can h = absurd (cc)
  few_directed (change.Directed p) can h = can
  few_directed change.EndedHeld can h = absurd (cc)
  few_directed (change.EndedAt p proxied) can h = absurd (cc)

  pub some_waiting : (c : Change) → CanCount t c → ends_waiting c ≡ true → 0 < t.waiting
  some_waiting change.Admitted can h = absurd (cc)
  some_waiting (change.Assigned p) can h = can
  some_waiting (change.Directed p) can h = absurd (cc)
  some_waiting change.EndedHeld can h = can
  some_waiting (change.EndedAt p proxied) can h = absurd (cc)

  pub some_admitted : (c : Change) → CanCount t c → ends_admitted c ≡ true → 0 < t.activator.count
  some_admitted change.Admitted can h = absurd (cc)
  some_admitted (change.Assigned p) can h = absurd (cc)
  some_admitted (change.Directed p) can h = absurd (cc)
  some_admitted change.EndedHeld can h = omega (arith, can, bounded.waiting)
  some_admitted (change.EndedAt p true) can h = omega (arith, can)
  some_admitted (change.EndedAt p false) can h = absurd (cc)

  pub some_directed : (c : Change) → CanCount t c → ends_directed c ≡ true → 0 < t.direct.count
  some_directed change.Admitted can h = absurd (cc)
  some_directed (change.Assigned p) can h = absurd (cc)
  some_directed (change.Directed p) can h = absurd (cc)
  some_directed change.EndedHeld can h = absurd (cc)
  some_directed (change.EndedAt p true) can h = absurd (cc)
  some_directed (change.EndedAt p false) can h = can

-- ---- the pods

abbrev proxied_count : PodTally → ℕ
proxied_count q = q.proxied.count

abbrev direct_count : PodTally → ℕ
direct_count q = q.direct.count

pub some_same : (p q : ℕ) → Some p ≡ Some q → p ≡ q
some_same p q h = cc

module _ (s : StatsState) (within : IsWithin s) where
  proxied_most : (p : ℕ) → (found p s.pods).proxied.count + s.waiting ≤ s.activator.count
  proxied_most p = let a = found-sum proxied_count p s.pods refl in omega (arith, a, within.waiting)

  direct_most : (p : ℕ) → (found p s.pods).direct.count ≤ s.direct.count
  direct_most p = let a = found-sum direct_count p s.pods refl in omega (arith, a, within.directed)

  pub can_count : (c : Change) → CanChange s c → CanCount (totals_in s) c
  can_count change.Admitted can = can
  can_count (change.Assigned p) can = can.0
  can_count (change.Directed p) can = can.0
  can_count change.EndedHeld can = can
  can_count (change.EndedAt p true) can = omega (arith, can, proxied_most p)
  can_count (change.EndedAt p false) can = omega (arith, can, direct_most p)

  -- ---- at the pod that is named

  pub room_direct_at : (c : Change) (p : ℕ) → CanChange s c → is_directed c ≡ true → (found p s.pods).direct.count < 20000
  room_direct_at c p can h = let few = few_directed (totals_in s) within.totals c (can_count c can) h in omega (arith, few, direct_most p)

  pub room_assigned_at : (c : Change) (p : ℕ) → CanChange s c → is_assigned c ≡ true → (found p s.pods).proxied.count < 20000
  room_assigned_at change.Admitted p can h = absurd (cc)
  room_assigned_at (change.Assigned q) p can h = let some = can.0 in omega (arith, some, proxied_most p, within.totals.live)
  room_assigned_at (change.Directed q) p can h = absurd (cc)
  room_assigned_at change.EndedHeld p can h = absurd (cc)
  room_assigned_at (change.EndedAt q proxied) p can h = absurd (cc)

  pub some_assigned_at : (c : Change) (p : ℕ) → CanChange s c → pod_of c ≡ Some p → ends_assigned c ≡ true → 0 < (found p s.pods).proxied.count
  some_assigned_at change.Admitted p can e h = absurd (cc)
  some_assigned_at (change.Assigned q) p can e h = absurd (cc)
  some_assigned_at (change.Directed q) p can e h = absurd (cc)
  some_assigned_at change.EndedHeld p can e h = absurd (cc)
  some_assigned_at (change.EndedAt q true) p can e h = let same = ap (λ r. (found r s.pods).proxied.count) (some_same q p e) in omega (arith, can, same)
  some_assigned_at (change.EndedAt q false) p can e h = absurd (cc)

  pub some_direct_at : (c : Change) (p : ℕ) → CanChange s c → pod_of c ≡ Some p → ends_directed c ≡ true → 0 < (found p s.pods).direct.count
  some_direct_at change.Admitted p can e h = absurd (cc)
  some_direct_at (change.Assigned q) p can e h = absurd (cc)
  some_direct_at (change.Directed q) p can e h = absurd (cc)
  some_direct_at change.EndedHeld p can e h = absurd (cc)
  some_direct_at (change.EndedAt q true) p can e h = absurd (cc)
  some_direct_at (change.EndedAt q false) p can e h = let same = ap (λ r. (found r s.pods).direct.count) (some_same q p e) in omega (arith, can, same)

  pub can_end : (c : Change) (p : ℕ) → CanChange s c → pod_of c ≡ Some p → CanEnd c (found p s.pods)
  can_end change.Admitted p can e = tt
  can_end (change.Assigned q) p can e = tt
  can_end (change.Directed q) p can e = tt
  can_end change.EndedHeld p can e = tt
  can_end (change.EndedAt q true) p can e = some_assigned_at (change.EndedAt q true) p can e refl
  can_end (change.EndedAt q false) p can e = some_direct_at (change.EndedAt q false) p can e refl

  -- the pod that is named has room
  pub room_at : (c : Change) (p : ℕ) → CanChange s c → pod_of c ≡ Some p → HasRoom s p
  room_at change.Admitted p can e = absurd (cc)
  room_at (change.Assigned q) p can e = let same = ap (λ r. length (put r (λ x. x) s.pods)) (some_same q p e) in let room = can.1 in omega (arith, same, room)
  room_at (change.Directed q) p can e = let same = ap (λ r. length (put r (λ x. x) s.pods)) (some_same q p e) in let room = can.1 in omega (arith, same, room)
  room_at change.EndedHeld p can e = absurd (cc)
  room_at (change.EndedAt q true) p can e =
      let same = ap (λ r. length (put r (λ x. x) s.pods)) (some_same q p e) in
      let there = length-there proxied_count q s.pods refl within.sorted can in
      omega (arith, same, there, within.room)
  room_at (change.EndedAt q false) p can e =
      let same = ap (λ r. length (put r (λ x. x) s.pods)) (some_same q p e) in
      let there = length-there direct_count q s.pods refl within.sorted can in
      omega (arith, same, there, within.room)
