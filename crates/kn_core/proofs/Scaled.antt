-- The rows of a scale, as the throttler can take them.
use Rattle.std.proofs.Common.{◌≡◌, ℕ, ◌+◌, ◌-◌, take, min, ◌<◌, ◌≤◌, ◌^◌, Bool, true, false, List, [], ◌∷◌, ◌++◌, map, reverse, length, refl, sym, ap, ◌∙◌, subst, arith, append_assoc, append-nil, length-append, Option, None, Some}
use Rattle.std.specs.Prelude.{◌||◌, ◌==◌, ⊤}
use Rattle.std.specs.List.{range_with_len}
use Rattle.std.proofs.lemmas.List.{length-map, length-reverse, length-take, reverse-append}
use Rattle.std.proofs.lemmas.List.Folds.{list_any-append}
use Rattle.std.proofs.lemmas.List.FromFn.{length-range_with_len}
use Rattle.kn_event.specs.Revision.{AreInRange}
use Rattle.kn_event.specs.declared.entry.Entry.{Entry}
use Rattle.kn_event.specs.declared.entry.Row.{Row}
use Rattle.kn_event.specs.declared.entry.Row.TheVariants as row
use Rattle.kn_event.specs.declared.revision.Spec.{Spec}
use Rattle.kn_event.specs.Lists.{contains}
use Rattle.kn_trace.specs.Rows.{created_by}
use Rattle.kn_trace.specs.Scale.{creations, drain_order, scale_rows}
use Rattle.kn_trace.specs.Trace.{Trace, created, entry, ready_pods, starting_pods}
use Rattle.kn_record.specs.declared.admission.Pod.{Pod}
use Rattle.kn_record.specs.declared.admission.Readiness.{Readiness}
use Rattle.kn_record.specs.declared.admission.Readiness.TheVariants as readiness
use Rattle.kn_record.specs.Admission.{Admission, is_draining_now, is_ready_now, is_starting_now, more_by, pods_in, stepped}
use Rattle.kn_record.specs.Made.{Holds, IsMade, IsProper, IsRecordOf}
use Rattle.kn_record.specs.Views.{AreViews}
use Rattle.kn_record.specs.Walks.{stepped_by}
use Rattle.kn_laws.specs.Kinds.{Each, EachAt}
use Rattle.kn_scaler.specs.Rows.{is_quiet}
use Rattle.kn_scaler.specs.Stands.{ScalerState, IsScalerOfTrace}
use Rattle.kn_core.specs.Following.{CanFollow, CanTake}
use Rattle.kn_core.specs.State.{IsMeasuredAt, IsScalerOf}
use Rattle.kn_core.proofs.Traces.{is_unscaled_row, unscaled_more}

-- what holds of each row of a trace holds of those behind
pub holds_behind : (P : Trace → Row → Type 0) (before xs ys : Trace) → Holds P before (xs ++ ys) → Holds P (before ++ xs) ys
holds_behind P before [] ys h = rw (append-nil before) h
holds_behind P before (x ∷ xs) ys h = subst (λ (d : Trace). Holds P d ys) (append_assoc before (x ∷ []) xs) (holds_behind P (before ++ x ∷ []) xs ys h.1)

pub made_behind : (s : Spec) (c es : Trace) → IsMade s (c ++ es) → Holds (IsProper s) c es
made_behind s c es made = holds_behind (IsProper s) [] c es made.rows

pub holds_front : (P : Trace → Row → Type 0) (before xs ys : Trace) → Holds P before (xs ++ ys) → Holds P before xs
holds_front P before [] ys h = tt
holds_front P before (x ∷ xs) ys h = (h.0, holds_front P (before ++ x ∷ []) xs ys h.1)

-- ---- the autoscaler

quiet_unscaled : (es : Trace) → Each is_quiet es → Each is_unscaled_row es
quiet_unscaled [] h = tt
quiet_unscaled (e ∷ es) h = (by e.row h.0, quiet_unscaled es h.1)
  where
    by : (x : Row) → is_quiet x ≡ true → is_unscaled_row x ≡ true
    by (row.Phase x) k = absurd (cc)
    by (row.Mode m) k = absurd (cc)
    by _ k = refl

pub scaler_quiet : ((s : Spec) (x : ScalerState) (c es : Trace) → IsMade s c → Holds (IsProper s) c es → EachAt x.stats.time es → Each is_quiet es → IsScalerOfTrace s x c → IsScalerOfTrace s x (c ++ es))
    → (s : Spec) (o : Option ScalerState) (t : ℕ) (c es : Trace) → IsMeasuredAt t o → IsMade s c → Holds (IsProper s) c es → EachAt t es → Each is_quiet es → IsScalerOf s o c → IsScalerOf s o (c ++ es)
scaler_quiet law s None t c es measured made proper at quiet h = unscaled_more s c es (quiet_unscaled es quiet) h
scaler_quiet law s (Some y) t c es measured made proper at quiet h = record { kind = h.kind; stands = law s y c es made proper (rw measured at) quiet h.stands }

-- ---- pods

abbrev pub count : (Readiness → Bool) → List Pod → ℕ
count test all = length (pods_in test all)

counts : (all : List Pod) → length all ≡ (count is_starting_now all + count is_ready_now all) + count is_draining_now all
counts [] = refl
counts (q ∷ all) = by q.readiness refl (counts all)
  where
    by : (x : Readiness) → q.readiness ≡ x → length all ≡ (count is_starting_now all + count is_ready_now all) + count is_draining_now all
        → length (q ∷ all) ≡ (count is_starting_now (q ∷ all) + count is_ready_now (q ∷ all)) + count is_draining_now (q ∷ all)
    by readiness.Starting e rec = rw e (omega (arith, rec))
    by readiness.Ready e rec = rw e (omega (arith, rec))
    by readiness.Draining e rec = rw e (omega (arith, rec))

created_draining : (all : List Pod) (p n : ℕ) → pods_in is_draining_now (all ++ record { number = p; limit = n; readiness = readiness.Starting } ∷ []) ≡ pods_in is_draining_now all
created_draining [] p n = refl
created_draining (q ∷ all) p n = by (is_draining_now q.readiness) refl (created_draining all p n)
  where
    by : (b : Bool) → is_draining_now q.readiness ≡ b → pods_in is_draining_now (all ++ record { number = p; limit = n; readiness = readiness.Starting } ∷ []) ≡ pods_in is_draining_now all
        → pods_in is_draining_now ((q ∷ all) ++ record { number = p; limit = n; readiness = readiness.Starting } ∷ []) ≡ pods_in is_draining_now (q ∷ all)
    by true e rec = rw e (ap (λ (ps : List ℕ). q.number ∷ ps) rec)
    by false e rec = rw e rec

contains_append : (p : ℕ) (xs ys : List ℕ) → contains p (xs ++ ys) ≡ (contains p xs || contains p ys)
contains_append p xs ys = list_any-append (λ y. y == p) xs ys

contains_reverse : (p : ℕ) (xs : List ℕ) → contains p (reverse xs) ≡ contains p xs
contains_reverse p [] = refl
contains_reverse p (x ∷ xs) = rw (reverse-append (x ∷ []) xs, contains_append p (reverse xs) (x ∷ []), contains_reverse p xs) (swap (contains p xs) (x == p))
  where
    swap : (a b : Bool) → (a || (b || false)) ≡ (b || a)
    swap true true = refl
    swap true false = refl
    swap false true = refl
    swap false false = refl

-- each creates a pod with this limit, and each drains one
abbrev pub Creates : ℕ → List Entry → Type 0
Creates n [] = ⊤
Creates n (e ∷ es) = ((p : ℕ) × (e.row ≡ row.Create p n)) × Creates n es

abbrev pub Drains : List Entry → Type 0
Drains [] = ⊤
Drains (e ∷ es) = ((p : ℕ) × (e.row ≡ row.Drain p)) × Drains es

created_rows : (t n : ℕ) (ps : List ℕ) → Creates n (map (λ p. entry t (row.Create p n)) ps)
created_rows t n [] = tt
created_rows t n (p ∷ ps) = ((p, refl), created_rows t n ps)

drained_rows : (t : ℕ) (ps : List ℕ) → Drains (map (λ p. entry t (row.Drain p)) ps)
drained_rows t [] = tt
drained_rows t (p ∷ ps) = ((p, refl), drained_rows t ps)

pub follow_then : (a : Admission) (es ds : List Entry) → CanFollow a es → CanFollow (stepped_by es a) ds → CanFollow a (es ++ ds)
follow_then a [] ds h k = k
follow_then a (e ∷ es) ds h k = (h.0, follow_then (stepped e.time e.row a) es ds h.1 k)

module _ (makes : (s : Spec) (c : Trace) (t : ℕ) (x : Row) → IsMade s c → IsProper s c x → IsMade s (c ++ entry t x ∷ []))
    (steps : (s : Spec) (a : Admission) (c : Trace) (t : ℕ) (x : Row) → IsRecordOf a c → IsProper s c x → IsRecordOf (stepped t x a) (c ++ entry t x ∷ []))
    (views : (s : Spec) (a : Admission) (c : Trace) → IsRecordOf a c → AreViews s a c)
    (s : Spec) (ranges : AreInRange s) where
  can_create : (a : Admission) (c : Trace) (p n : ℕ) → n ≤ 1000 → a.created < 2 ^ 63 → count is_draining_now a.pods ≤ 20000 → IsRecordOf a c → IsProper s c (row.Create p n) → CanTake a (row.Create p n)
  unfolding drain_order
  can_create a c p n limit few draining stands proper =
      let v = views s a c stands in
      let number : p ≡ a.created = proper.0 ∙ v.created in
      let order = proper.1 ranges in
      let one : length (starting_pods c) ≡ count is_starting_now a.pods = ap length v.starting in
      let two : length (ready_pods c) ≡ count is_ready_now a.pods = ap length v.ready in
      let all = length-append (reverse (starting_pods c)) (reverse (ready_pods c)) in
      (number, omega arith, omega (arith, order, one, two, all, counts a.pods, draining, length-reverse (starting_pods c), length-reverse (ready_pods c)), limit)

  pub creates_follow : (es : List Entry) (a : Admission) (c : Trace) (n : ℕ) → n ≤ 1000 → a.created + length es ≤ 2 ^ 63 → count is_draining_now a.pods ≤ 20000 → IsRecordOf a c → Holds (IsProper s) c es → Creates n es → CanFollow a es
  unfolding stepped
  creates_follow [] a c n limit few draining stands proper rows = tt
  creates_follow (e ∷ es) a c n limit few draining stands proper rows =
      let p = rows.0.0 in
      let here = subst (IsProper s c) rows.0.1 proper.0 in
      let next : count is_draining_now (stepped e.time e.row a).pods ≤ 20000 = rw (rows.0.1, created_draining a.pods p n) draining in
      let more : (stepped e.time e.row a).created + length es ≤ 2 ^ 63 = rw rows.0.1 (omega arith) in (
        subst (CanTake a) (sym rows.0.1) (can_create a c p n limit (omega arith) draining stands here),
        creates_follow es (stepped e.time e.row a) (c ++ e ∷ []) n limit more next (steps s a c e.time e.row stands proper.0) proper.1 rows.1,
      )

  pub drains_follow : (es : List Entry) (a : Admission) (c : Trace) → IsRecordOf a c → Holds (IsProper s) c es → Drains es → CanFollow a es
  unfolding drain_order
  drains_follow [] a c stands proper rows = tt
  drains_follow (e ∷ es) a c stands proper rows =
      let p = rows.0.0 in
      let v = views s a c stands in
      let here : contains p (reverse (starting_pods c) ++ reverse (ready_pods c)) ≡ true = subst (IsProper s c) rows.0.1 proper.0 in
      let both : (contains p (starting_pods c) || contains p (ready_pods c)) ≡ true = rw (contains_append p (reverse (starting_pods c)) (reverse (ready_pods c)), contains_reverse p (starting_pods c), contains_reverse p (ready_pods c)) at here in
      (subst (CanTake a) (sym rows.0.1) (rw (v.starting, v.ready) at both), drains_follow es (stepped e.time e.row a) (c ++ e ∷ []) (steps s a c e.time e.row stands proper.0) proper.1 rows.1)

  -- all rows of a scale
  pub scale_follows : ((a : Admission) (c es : Trace) → IsRecordOf a c → Holds (IsProper s) c es → IsRecordOf (stepped_by es a) (c ++ es)) → (a : Admission) (c : Trace) (t want : ℕ) → want ≤ 500 → a.created + 500 ≤ 2 ^ 63
      → count is_draining_now a.pods ≤ 20000 → IsRecordOf a c → Holds (IsProper s) c (scale_rows s t c want) → CanFollow a (scale_rows s t c want)
  unfolding scale_rows
  scale_follows rows a c t want few numbers draining stands proper =
      let standing = length (drain_order c) in
      let news : List Entry = creations s t (created c) (want - standing) in
      let gone : List Entry = map (λ p. entry t (row.Drain p)) (take (standing - want) (drain_order c)) in
      let front = holds_front (IsProper s) c news gone proper in
      let most : length news ≡ want - standing = length-map (range_with_len (created c) (want - standing)) _ ∙ length-range_with_len (created c) (want - standing) in
      follow_then a news gone
      (creates_follow news a c s.cc ranges.cc (omega (arith, most, few, numbers)) draining stands front (created_rows t s.cc (range_with_len (created c) (want - standing))))
      (drains_follow gone (stepped_by news a) (c ++ news) (rows a c news stands front) (holds_behind (IsProper s) c news gone proper) (drained_rows t (take (standing - want) (drain_order c))))

-- so many at most
pub scale_few : (s : Spec) (t : ℕ) (c : Trace) (want : ℕ) → want ≤ 500 → length (drain_order c) ≤ 500 → length (scale_rows s t c want) ≤ 500
unfolding scale_rows
scale_few s t c want few standing =
    let n = length (drain_order c) in
    let one : length (creations s t (created c) (want - n)) ≡ want - n = length-map (range_with_len (created c) (want - n)) _ ∙ length-range_with_len (created c) (want - n) in
    let two : length (map (λ p. entry t (row.Drain p)) (take (n - want) (drain_order c))) ≡ min (n - want) n = length-map (take (n - want) (drain_order c)) _ ∙ length-take (n - want) (drain_order c) in
    omega (arith, one, two, few, standing, length-append (creations s t (created c) (want - n)) (map (λ p. entry t (row.Drain p)) (take (n - want) (drain_order c))))

-- each row creates one pod at most
pub stepped_created : (es : List Entry) (a : Admission) → (stepped_by es a).created ≤ a.created + length es
unfolding stepped
stepped_created [] a = omega arith
stepped_created (e ∷ es) a =
    let rest = stepped_created es (stepped e.time e.row a) in
    let one : (stepped e.time e.row a).created ≤ a.created + 1 = by (created_by e.row) in
    omega (arith, rest, one)
  where
    by : (o : Option ℕ) → more_by o a.created ≤ a.created + 1
    by None = omega arith
    by (Some p) = omega arith
