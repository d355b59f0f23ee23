-- One change more, a pod that leaves, and time that passes: what a Stats stands for, and its bounds.
use Rattle.std.proofs.Common.{◌≡◌, refl, sym, ap, subst, ◌∙◌, ℕ, ◌≤◌, ◌<◌, Bool, true, false, ◌&&◌, ◌||◌, List, [], ◌∷◌, ◌++◌, length, arith, ◌+◌}
use Rattle.std.specs.Prelude.{◌==◌, nat_lt, Option, None, Some}
use Rattle.std.specs.List.{sum_by}
use Rattle.std.proofs.lemmas.Bool.{eqb-true}
use Rattle.kn_event.specs.declared.revision.Metric.{Metric}
use Rattle.kn_event.specs.Lists.{contains, is_some_of}
use Rattle.kn_scaling.specs.Average.{second_of}
use Rattle.kn_stats.specs.declared.change.Change.{Change}
use Rattle.kn_stats.specs.declared.change.Change.TheVariants as change
use Rattle.kn_stats.specs.declared.tally.Tally.{Tally}
use Rattle.kn_stats.specs.declared.tally.PodTally.{PodTally}
use Rattle.kn_stats.specs.Changes.{AreBy, TimedChange, at, ends_admitted, ends_assigned, ends_directed, is_admitted, is_assigned, is_directed, pod_of, timed}
use Rattle.kn_stats.specs.Pods.{IsSmall, IsSmallPod, IsSorted, anew, anew_if, found, fresh, idle, no_tally, pod_after, put, tally_after, without_pod}
use Rattle.kn_stats.specs.Totals.{IsTally, left_of, waiting_after}
use Rattle.kn_stats.specs.Stands.{CanChange, IsIdle, IsPodOf, IsWithin, IsStatsOf, StatsState, advanced, changed, opened, pods_by, totals_in, without}
use Rattle.kn_stats.proofs.Allowed.{apart_assigned, apart_directed, can_count, room_assigned_at, room_at, room_direct_at, some_assigned_at, some_direct_at}
use Rattle.kn_stats.proofs.Bounds.{count-anew, count-fresh-direct, count-fresh-proxied, left_inside, small_after, small_anew, small_later, small_none}
use Rattle.kn_stats.proofs.Sums.{tally_anew, tally_none, tally_push}
use Rattle.kn_stats.proofs.Table.{found-out, found-out-same, found-put, found-put-other, length-out, length-put, sorted-out, sorted-put, sum-out, sum-put}
use Rattle.kn_stats.proofs.Counted.{bounded_counted, bounded_none, bounded_passed, left_most, totals_counted, totals_none, totals_passed}

-- ---- nothing yet

pub stands_none : (m : Metric) (t : ℕ) → IsStatsOf (opened m t) [] []
stands_none m t = record {
  totals = totals_none m t;
  pods = λ p h. record { direct = idle_tally is_directed ends_directed p; proxied = idle_tally is_assigned ends_assigned p };
}
  where
    idle_tally : (begins ends : Change → Bool) (p : ℕ) → IsTally (at begins p) (at ends p) (second_of t) (anew_if (nat_lt 0 (second_of t)) no_tally) []
    idle_tally begins ends p = by (nat_lt 0 (second_of t))
      where
        by : (b : Bool) → IsTally (at begins p) (at ends p) (second_of t) (anew_if b no_tally) []
        by true = tally_none (at begins p) (at ends p) (second_of t)
        by false = tally_none (at begins p) (at ends p) (second_of t)

small_idle : (s left p : ℕ) → left ≤ 1000 → IsSmallPod s left (idle p)
small_idle s left p le = record { second = omega arith; direct = by (nat_lt 0 s); proxied = by (nat_lt 0 s) }
  where
    by : (b : Bool) → IsSmall left (anew_if b no_tally)
    by true = small_none left le
    by false = small_none left le

pub within_none : (m : Metric) (t : ℕ) → IsWithin (opened m t)
within_none m t = record {
  totals = bounded_none m t;
  waiting = refl;
  directed = refl;
  sorted = tt;
  pods = λ p. small_idle (second_of t) (left_of t) p (left_most t);
  room = omega arith;
}

-- ---- one change more

not_before : (s : ℕ) → nat_lt s s ≡ false
not_before s = grind arith

fresh-after : (s left : ℕ) (c : Change) (q : PodTally) → fresh s (pod_after s left c q) ≡ pod_after s left c q
fresh-after s left c q = ap (λ b. record {
  number = q.number;
  second = s;
  direct = anew_if b (pod_after s left c q).direct;
  proxied = anew_if b (pod_after s left c q).proxied;
}) (not_before s)

and-true : (a b : Bool) → b ≡ true → (a && b) ≡ a
and-true true b h = h
and-true false b h = refl

and-false : (a b : Bool) → b ≡ false → (a && b) ≡ false
and-false true b h = h
and-false false b h = refl

module _ (s : StatsState) (within : IsWithin s) (c : Change) (can : CanChange s c) where
  abbrev second : ℕ
  second = second_of s.time

  abbrev left : ℕ
  left = left_of s.time

  abbrev later : List TimedChange → List TimedChange
  later cs = cs ++ timed s.time c ∷ []

  -- ---- the pod that is named

  named-is : (p q : ℕ) → pod_of c ≡ Some q → (q == p) ≡ true → is_some_of p (pod_of c) ≡ true
  named-is p q e h = ap (is_some_of p) e ∙ h

  found-after : (p : ℕ) → pod_of c ≡ Some p → fresh second (found p (put p (pod_after second left c) s.pods)) ≡ pod_after second left c (found p s.pods)
  found-after p e = ap (fresh second) (found-put p (pod_after second left c) s.pods (λ q. refl) within.sorted) ∙ fresh-after second left c (found p s.pods)

  direct_there : (p : ℕ) → pod_of c ≡ Some p → ends_directed c ≡ true → (0 < (fresh second (found p s.pods)).direct.count) × (left ≤ (fresh second (found p s.pods)).direct.area)
  direct_there p e h =
      let q = found p s.pods in
      let some = some_direct_at s within c p can e h in
      let count = count-fresh-direct second q in
      let there : 0 < (fresh second q).direct.count = omega (arith, some, count) in
      (there, left_inside left (fresh second q).direct (within.pods p).direct there)

  proxied_there : (p : ℕ) → pod_of c ≡ Some p → ends_assigned c ≡ true → (0 < (fresh second (found p s.pods)).proxied.count) × (left ≤ (fresh second (found p s.pods)).proxied.area)
  proxied_there p e h =
      let q = found p s.pods in
      let some = some_assigned_at s within c p can e h in
      let count = count-fresh-proxied second q in
      let there : 0 < (fresh second q).proxied.count = omega (arith, some, count) in
      (there, left_inside left (fresh second q).proxied (within.pods p).proxied there)

  pod_named : (cs : List TimedChange) (p : ℕ) → pod_of c ≡ Some p → IsPodOf p second (found p s.pods) cs → IsPodOf p second (found p (put p (pod_after second left c) s.pods)) (later cs)
  pod_named cs p e is =
      let named : is_some_of p (pod_of c) ≡ true = named-is p p e (grind arith) in
      let whole = found-after p e in
      record {
        direct = subst (λ (q : PodTally). IsTally (at is_directed p) (at ends_directed p) second q.direct (later cs)) (sym whole)
            (tally_push (at is_directed p) (at ends_directed p) s.time c (fresh second (found p s.pods)).direct cs (is_directed c) (ends_directed c)
            (and-true (is_directed c) (is_some_of p (pod_of c)) named) (and-true (ends_directed c) (is_some_of p (pod_of c)) named) (apart_directed c) (direct_there p e) is.direct);
        proxied = subst (λ (q : PodTally). IsTally (at is_assigned p) (at ends_assigned p) second q.proxied (later cs)) (sym whole)
            (tally_push (at is_assigned p) (at ends_assigned p) s.time c (fresh second (found p s.pods)).proxied cs (is_assigned c) (ends_assigned c)
            (and-true (is_assigned c) (is_some_of p (pod_of c)) named) (and-true (ends_assigned c) (is_some_of p (pod_of c)) named) (apart_assigned c) (proxied_there p e) is.proxied);
      }

  pod_other : (cs : List TimedChange) (p : ℕ) → is_some_of p (pod_of c) ≡ false → IsPodOf p second (found p s.pods) cs → IsPodOf p second (found p s.pods) (later cs)
  pod_other cs p other is = record {
    direct = tally_push (at is_directed p) (at ends_directed p) s.time c (fresh second (found p s.pods)).direct cs false false
        (and-false (is_directed c) (is_some_of p (pod_of c)) other) (and-false (ends_directed c) (is_some_of p (pod_of c)) other) (λ h. refl) (λ h. absurd (cc)) is.direct;
    proxied = tally_push (at is_assigned p) (at ends_assigned p) s.time c (fresh second (found p s.pods)).proxied cs false false
        (and-false (is_assigned c) (is_some_of p (pod_of c)) other) (and-false (ends_assigned c) (is_some_of p (pod_of c)) other) (λ h. refl) (λ h. absurd (cc)) is.proxied;
  }

  pod_push : (cs : List TimedChange) (p : ℕ) → IsPodOf p second (found p s.pods) cs → IsPodOf p second (found p (pods_by (pod_of c) s.time c s.pods)) (later cs)
  pod_push cs p is = by (pod_of c) refl
    where
      at_pod : (q : ℕ) → pod_of c ≡ Some q → (b : Bool) → (q == p) ≡ b → IsPodOf p (second_of s.time) (found p (put q (pod_after (second_of s.time) (left_of s.time) c) s.pods)) (cs ++ timed s.time c ∷ [])
      at_pod q e true h =
          let same : p ≡ q = sym (eqb-true q p h) in
          subst (λ r. IsPodOf p (second_of s.time) (found p (put r (pod_after (second_of s.time) (left_of s.time) c) s.pods)) (cs ++ timed s.time c ∷ [])) same
          (pod_named cs p (e ∙ ap (λ x. Some x) (sym same)) is)
      at_pod q e false h =
          subst (λ x. IsPodOf p (second_of s.time) x (cs ++ timed s.time c ∷ [])) (sym (found-put-other q p (pod_after (second_of s.time) (left_of s.time) c) s.pods h (λ x. refl)))
          (pod_other cs p (ap (is_some_of p) e ∙ h) is)

      by : (o : Option ℕ) → pod_of c ≡ o → IsPodOf p (second_of s.time) (found p (pods_by o s.time c s.pods)) (cs ++ timed s.time c ∷ [])
      by None e = pod_other cs p (ap (is_some_of p) e) is
      by (Some q) e = at_pod q e (q == p) refl

  -- ---- the whole

  pub stands_changed : (cs : List TimedChange) (gone : List ℕ) → IsStatsOf s cs gone → IsStatsOf (changed c s) (cs ++ timed s.time c ∷ []) gone
  stands_changed cs gone is = record {
    totals = totals_counted (totals_in s) within.totals c (can_count s within c can) cs is.totals;
    pods = λ p h. pod_push cs p (is.pods p h);
  }

  -- ---- its bounds

  small_named : (p : ℕ) → pod_of c ≡ Some p → IsSmallPod second left (found p (put p (pod_after second left c) s.pods))
  small_named p e =
      let q = found p s.pods in
      let is = within.pods p in
      let here = found-put p (pod_after second left c) s.pods (λ x. refl) within.sorted in
      let whole = found-after p e in
      let direct_same = count-fresh-direct second q in
      let proxied_same = count-fresh-proxied second q in
      record {
        second = subst (λ (x : PodTally). x.second ≤ second) (sym here) (omega arith);
        direct = subst (λ (x : PodTally). IsSmall left x.direct) (sym whole)
            (small_after (is_directed c) (ends_directed c) left (fresh second q).direct (λ h. let few = room_direct_at s within c p can h in omega (arith, few, direct_same))
            (λ h. (direct_there p e h).0) is.direct);
        proxied = subst (λ (x : PodTally). IsSmall left x.proxied) (sym whole)
            (small_after (is_assigned c) (ends_assigned c) left (fresh second q).proxied (λ h. let few = room_assigned_at s within c p can h in omega (arith, few, proxied_same))
            (λ h. (proxied_there p e h).0) is.proxied);
      }

  small_pods : (p : ℕ) → IsSmallPod second left (found p (pods_by (pod_of c) s.time c s.pods))
  small_pods p = by (pod_of c) refl
    where
      at_pod : (q : ℕ) → pod_of c ≡ Some q → (b : Bool) → (q == p) ≡ b → IsSmallPod (second_of s.time) (left_of s.time) (found p (put q (pod_after (second_of s.time) (left_of s.time) c) s.pods))
      at_pod q e true h =
          let same : p ≡ q = sym (eqb-true q p h) in
          subst (λ r. IsSmallPod (second_of s.time) (left_of s.time) (found p (put r (pod_after (second_of s.time) (left_of s.time) c) s.pods))) same (small_named p (e ∙ ap (λ x. Some x) (sym same)))
      at_pod q e false h =
          subst (IsSmallPod (second_of s.time) (left_of s.time)) (sym (found-put-other q p (pod_after (second_of s.time) (left_of s.time) c) s.pods h (λ x. refl))) (within.pods p)

      by : (o : Option ℕ) → pod_of c ≡ o → IsSmallPod (second_of s.time) (left_of s.time) (found p (pods_by o s.time c s.pods))
      by None e = within.pods p
      by (Some q) e = at_pod q e (q == p) refl

  sorted_pods : (o : Option ℕ) → IsSorted (pods_by o s.time c s.pods)
  sorted_pods None = within.sorted
  sorted_pods (Some q) = sorted-put q (pod_after (second_of s.time) (left_of s.time) c) s.pods within.sorted (λ x. refl)

  room_pods : (o : Option ℕ) → pod_of c ≡ o → length (pods_by o s.time c s.pods) ≤ 20500
  room_pods None e = within.room
  room_pods (Some q) e =
      let same = length-put q (pod_after (second_of s.time) (left_of s.time) c) (λ x. x) s.pods in
      let room = room_at s within c q can e in
      omega (arith, same, room)

-- ---- the counts at all pods

abbrev proxied_count : PodTally → ℕ
proxied_count q = q.proxied.count

abbrev direct_count : PodTally → ℕ
direct_count q = q.direct.count

module _ (s : StatsState) (within : IsWithin s) where
  proxied_put : (c : Change) (p : ℕ) → sum_by proxied_count (put p (pod_after (second_of s.time) (left_of s.time) c) s.pods) + (found p s.pods).proxied.count
      ≡ sum_by proxied_count s.pods + (tally_after (is_assigned c) (ends_assigned c) (left_of s.time) (fresh (second_of s.time) (found p s.pods)).proxied).count
  proxied_put c p = sum-put proxied_count p (pod_after (second_of s.time) (left_of s.time) c) s.pods refl within.sorted

  direct_put : (c : Change) (p : ℕ) → sum_by direct_count (put p (pod_after (second_of s.time) (left_of s.time) c) s.pods) + (found p s.pods).direct.count
      ≡ sum_by direct_count s.pods + (tally_after (is_directed c) (ends_directed c) (left_of s.time) (fresh (second_of s.time) (found p s.pods)).direct).count
  direct_put c p = sum-put direct_count p (pod_after (second_of s.time) (left_of s.time) c) s.pods refl within.sorted

  same_proxied : (p : ℕ) → (fresh (second_of s.time) (found p s.pods)).proxied.count ≡ (found p s.pods).proxied.count
  same_proxied p = count-fresh-proxied (second_of s.time) (found p s.pods)

  same_direct : (p : ℕ) → (fresh (second_of s.time) (found p s.pods)).direct.count ≡ (found p s.pods).direct.count
  same_direct p = count-fresh-direct (second_of s.time) (found p s.pods)

  pub waiting_kept : (c : Change) → CanChange s c → waiting_after c s.waiting + sum_by proxied_count (pods_by (pod_of c) s.time c s.pods) ≡ (tally_after (is_admitted c) (ends_admitted c) (left_of s.time) s.activator).count
  waiting_kept change.Admitted can = omega (arith, within.waiting)
  waiting_kept (change.Assigned p) can = let some = can.0 in omega (arith, within.waiting, proxied_put (change.Assigned p) p, same_proxied p, some)
  waiting_kept (change.Directed p) can = omega (arith, within.waiting, proxied_put (change.Directed p) p, same_proxied p)
  waiting_kept change.EndedHeld can = omega (arith, within.waiting, can)
  waiting_kept (change.EndedAt p true) can = omega (arith, within.waiting, proxied_put (change.EndedAt p true) p, same_proxied p, can)
  waiting_kept (change.EndedAt p false) can = omega (arith, within.waiting, proxied_put (change.EndedAt p false) p, same_proxied p)

  pub directed_kept : (c : Change) → CanChange s c → sum_by direct_count (pods_by (pod_of c) s.time c s.pods) ≡ (tally_after (is_directed c) (ends_directed c) (left_of s.time) s.direct).count
  directed_kept change.Admitted can = within.directed
  directed_kept (change.Assigned p) can = omega (arith, within.directed, direct_put (change.Assigned p) p, same_direct p)
  directed_kept (change.Directed p) can = omega (arith, within.directed, direct_put (change.Directed p) p, same_direct p)
  directed_kept change.EndedHeld can = within.directed
  directed_kept (change.EndedAt p true) can = omega (arith, within.directed, direct_put (change.EndedAt p true) p, same_direct p)
  directed_kept (change.EndedAt p false) can = omega (arith, within.directed, direct_put (change.EndedAt p false) p, same_direct p, can)

  pub within_changed : (c : Change) → CanChange s c → IsWithin (changed c s)
  within_changed c can = record {
    totals = bounded_counted (totals_in s) within.totals c (can_count s within c can);
    waiting = waiting_kept c can;
    directed = directed_kept c can;
    sorted = sorted_pods s within c can (pod_of c);
    pods = small_pods s within c can;
    room = room_pods s within c can (pod_of c) refl;
  }

-- ---- a pod leaves

module _ (s : StatsState) (p : ℕ) where
  not-among : (q r : ℕ) (gone : List ℕ) → ((q == r) || contains r gone) ≡ false → ((q == r) ≡ false) × (contains r gone ≡ false)
  not-among q r gone h = by (q == r) refl h
    where
      by : (b : Bool) → (q == r) ≡ b → (b || contains r gone) ≡ false → ((q == r) ≡ false) × (contains r gone ≡ false)
      by true e h = absurd (cc)
      by false e h = (e, h)

  pub stands_without : (cs : List TimedChange) (gone : List ℕ) → IsStatsOf s cs gone → IsStatsOf (without p s) cs (p ∷ gone)
  stands_without cs gone is = record {
    totals = is.totals;
    pods = λ r h.
        let parts = not-among p r gone h in
        subst (λ q. IsPodOf r (second_of s.time) q cs) (sym (found-out p r s.pods parts.0)) (is.pods r parts.1);
  }

  pub within_without : IsWithin s → IsIdle p s → IsWithin (without p s)
  within_without within none = record {
    totals = within.totals;
    waiting = let out = sum-out proxied_count p s.pods refl in omega (arith, out, within.waiting, none.proxied);
    directed = let out = sum-out direct_count p s.pods refl in omega (arith, out, within.directed, none.direct);
    sorted = sorted-out p s.pods within.sorted;
    pods = λ r. by r (p == r) refl;
    room = let fewer = length-out p s.pods in omega (arith, fewer, within.room);
  }
    where
      by : (r : ℕ) (b : Bool) → (p == r) ≡ b → IsSmallPod (second_of s.time) (left_of s.time) (found r (without_pod p s.pods))
      by r true e =
          let same : p ≡ r = eqb-true p r e in
          let none_there : found r (without_pod p s.pods) ≡ idle r = subst (λ (x : ℕ). found x (without_pod p s.pods) ≡ idle x) same (found-out-same p s.pods within.sorted) in
          subst (IsSmallPod (second_of s.time) (left_of s.time)) (sym none_there) (small_idle (second_of s.time) (left_of s.time) r (left_most s.time))
      by r false e = subst (IsSmallPod (second_of s.time) (left_of s.time)) (sym (found-out p r s.pods e)) (within.pods r)

-- ---- time

anew-twice : (b : Bool) (t : Tally) → anew (anew_if b t) ≡ anew t
anew-twice true t = refl
anew-twice false t = refl

module _ (s : StatsState) (to : ℕ) (later : s.time ≤ to) (within : IsWithin s) (cs : List TimedChange) where
  abbrev from : ℕ
  from = second_of s.time

  abbrev next : ℕ
  next = second_of to

  pods_new : AreBy s.time cs → from < next → (p : ℕ) → IsPodOf p from (found p s.pods) cs → IsPodOf p next (found p s.pods) cs
  pods_new times new p is = record {
    direct = one (at is_directed p) (at ends_directed p) (nat_lt (found p s.pods).second next) (found p s.pods).direct over (nat_lt (found p s.pods).second from) is.direct;
    proxied = one (at is_assigned p) (at ends_assigned p) (nat_lt (found p s.pods).second next) (found p s.pods).proxied over (nat_lt (found p s.pods).second from) is.proxied;
  }
    where
      over : nat_lt (found p s.pods).second next ≡ true
      over = let before = (within.pods p).second in grind (arith, before, new)

      one : (begins ends : Change → Bool) (b : Bool) (t : Tally) → b ≡ true → (c : Bool) → IsTally begins ends from (anew_if c t) cs → IsTally begins ends next (anew_if b t) cs
      one begins ends b t h c i =
          subst (λ v. IsTally begins ends next (anew_if v t) cs) (sym h)
          (subst (λ t'. IsTally begins ends next t' cs) (anew-twice c t) (tally_anew begins ends from next s.time (anew_if c t) cs new times i))

  pub stands_advanced : (gone : List ℕ) → IsStatsOf s cs gone → IsStatsOf (advanced to s) cs gone
  stands_advanced gone is = record {
    totals = totals_passed (totals_in s) to later cs is.totals;
    pods = λ p h. by (nat_lt from next) refl p (is.pods p h);
  }
    where
      by : (b : Bool) → nat_lt from next ≡ b → (p : ℕ) → IsPodOf p from (found p s.pods) cs → IsPodOf p next (found p s.pods) cs
      by true h p i = pods_new is.totals.times (grind (arith, h)) p i
      by false h p i = subst (λ n. IsPodOf p n (found p s.pods) cs) (grind (arith, h, later)) i

module _ (s : StatsState) (to : ℕ) (later : s.time ≤ to) where
  pub within_advanced : IsWithin s → IsWithin (advanced to s)
  within_advanced within = record {
    totals = bounded_passed (totals_in s) to later within.totals;
    waiting = within.waiting ∙ sym (count-anew (nat_lt (second_of s.time) (second_of to)) s.activator);
    directed = within.directed ∙ sym (count-anew (nat_lt (second_of s.time) (second_of to)) s.direct);
    sorted = within.sorted;
    pods = λ p.
        let is = within.pods p in
        record {
          second = let before = is.second in omega (arith, before, later);
          direct = fresh_small (found p s.pods).second (found p s.pods).direct is.second is.direct;
          proxied = fresh_small (found p s.pods).second (found p s.pods).proxied is.second is.proxied;
        };
    room = within.room;
  }
    where
      -- what is kept of a pod is of an earlier second than the new one, or the open second is the same
      fresh_small : (n : ℕ) (t : Tally) → n ≤ second_of s.time → IsSmall (left_of s.time) (anew_if (nat_lt n (second_of s.time)) t) → IsSmall (left_of to) (anew_if (nat_lt n (second_of to)) t)
      fresh_small n t before small = go (nat_lt n (second_of to)) refl
        where
          go : (b : Bool) → nat_lt n (second_of to) ≡ b → IsSmall (left_of to) (anew_if b t)
          go true h = small_anew (left_of to) t (left_most to) (let same = count-anew (nat_lt n (second_of s.time)) t in omega (arith, same, small.count))
          go false h =
              let at_now : second_of to ≤ n = grind (arith, h) in
              let same : second_of s.time ≡ second_of to = omega (arith, at_now, before, later) in
              let still : nat_lt n (second_of s.time) ≡ false = ap (nat_lt n) same ∙ h in
              small_later (left_of s.time) (left_of to) t (omega (arith, same, later)) (subst (λ b. IsSmall (left_of s.time) (anew_if b t)) still small)
