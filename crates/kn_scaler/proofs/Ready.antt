-- Which rows leave no more pods Ready than before.
use Rattle.std.proofs.Common.{◌≡◌, ℕ, ◌+◌, ◌≤◌, Bool, true, false, List, [], ◌∷◌, ◌++◌, map, length, refl, ap, arith, cond, ◌==◌}
use Rattle.std.specs.Prelude.{None}
use Rattle.std.specs.List.{filter}
use Rattle.kn_event.specs.declared.entry.Row.{Row}
use Rattle.kn_event.specs.declared.entry.Row.TheVariants as row
use Rattle.kn_event.specs.declared.revision.Spec.{Spec}
use Rattle.kn_trace.specs.Rows.{decision_by, mode_by, phase_by}
use Rattle.kn_trace.specs.Scale.{count_ready}
use Rattle.kn_trace.specs.Trace.{Trace, entry}
use Rattle.kn_record.specs.declared.admission.Pod.{Pod}
use Rattle.kn_record.specs.declared.admission.Readiness.TheVariants as readiness
use Rattle.kn_record.specs.Admission.{Admission, admission, drained, is_ready_now, limited, marked, pods_after, pods_in, stepped}
use Rattle.kn_record.specs.Made.{IsMade, IsProper, IsRecordOf}
use Rattle.kn_record.specs.Views.{AreViews}
use Rattle.kn_scaler.specs.Rows.{IsBeside, says_scale}

abbrev count : List Pod → ℕ
count all = length (pods_in is_ready_now all)

abbrev one : Pod → ℕ
one q = cond (is_ready_now q.readiness) 1 0

count-cons : (q : Pod) (all : List Pod) → count (q ∷ all) ≡ one q + count all
count-cons q all = by (is_ready_now q.readiness)
  where
    by : (b : Bool) → (let rest : List Pod = filter (λ (x : Pod). is_ready_now x.readiness) all in length (map (λ (x : Pod). x.number) (cond b (q ∷ rest) rest))) ≡ cond b 1 0 + count all
    by true = omega arith
    by false = omega arith

count-last : (q : Pod) (all : List Pod) → is_ready_now q.readiness ≡ false → count (all ++ q ∷ []) ≤ count all
count-last q [] h = let this = count-cons q [] in let none : one q ≡ 0 = ap (λ b. cond b 1 0) h in omega (arith, this, none)
count-last q (x ∷ all) h =
    let this = count-cons x (all ++ q ∷ []) in
    let here = count-cons x all in
    let rest = count-last q all h in
    omega (arith, this, here, rest)

count-map : (f : Pod → Pod) → ((q : Pod) → one (f q) ≤ one q) → (all : List Pod) → count (map f all) ≤ count all
count-map f less [] = omega arith
count-map f less (x ∷ all) =
    let this = count-cons (f x) (map f all) in
    let here = count-cons x all in
    let rest = count-map f less all in
    let one_less = less x in
    omega (arith, this, here, rest, one_less)

filtered : (t : Pod → Bool) (x : Pod) (all : List Pod) → count (filter t all) ≤ count all → count (filter t (x ∷ all)) ≤ count (x ∷ all)
filtered t x all rest = by (t x)
  where
    by : (b : Bool) → count (cond b (x ∷ filter t all) (filter t all)) ≤ count (x ∷ all)
    by true = let this = count-cons x (filter t all) in let here = count-cons x all in omega (arith, this, here, rest)
    by false = let here = count-cons x all in omega (arith, here, rest)

count-filter : (t : Pod → Bool) (all : List Pod) → count (filter t all) ≤ count all
count-filter t [] = omega arith
count-filter t (x ∷ all) = filtered t x all (count-filter t all)

limited-one : (p n : ℕ) (q : Pod) → one (limited p n q) ≤ one q
limited-one p n q = by (p == q.number)
  where
    by : (b : Bool) → (let r : Pod = cond b (record q { limit = n }) q in one r) ≤ one q
    by true = omega arith
    by false = omega arith

drained-one : (p : ℕ) (q : Pod) → one (marked p drained q) ≤ one q
drained-one p q = by (p == q.number)
  where
    by : (b : Bool) → (let r : Pod = cond b (record q { readiness = readiness.Draining }) q in one r) ≤ one q
    by true = omega arith
    by false = omega arith

fewer : (x : Row) (all : List Pod) → says_scale x ≡ false → count (pods_after x all) ≤ count all
fewer (row.Create p n) all h = count-last _ all refl
fewer (row.Limit p n) all h = count-map (limited p n) (limited-one p n) all
fewer (row.Ready p) all h = absurd (cc)
fewer (row.Drain p) all h = count-map (marked p drained) (drained-one p) all
fewer (row.Remove p) all h = count-filter _ all
fewer (row.LostPod p) all h = count-filter _ all
fewer _ all h = omega arith

silent : (x : Row) → says_scale x ≡ false → (phase_by x ≡ None) × (mode_by x ≡ None) × (decision_by x ≡ None)
silent (row.Phase p) h = absurd (cc)
silent (row.Mode m) h = absurd (cc)
silent (row.Decided d) h = absurd (cc)
silent _ h = (refl, refl, refl)

module _
    (views : (s : Spec) (a : Admission) (c : Trace) → IsRecordOf a c → AreViews s a c)
    (stands : (s : Spec) (c : Trace) → IsMade s c → IsRecordOf (admission c) c)
    (append : (s : Spec) (a : Admission) (c : Trace) (t : ℕ) (x : Row) → IsRecordOf a c → IsProper s c x → IsRecordOf (stepped t x a) (c ++ entry t x ∷ []))
  where
    pub is_beside : (s : Spec) (c : Trace) (t : ℕ) (x : Row) → IsMade s c → IsProper s c x → says_scale x ≡ false → IsBeside c (entry t x)
    unfolding count_ready stepped
    is_beside s c t x made proper says =
        let old = stands s c made in
        let before = ap length (views s (admission c) c old).ready in
        let after = ap length (views s (stepped t x (admission c)) (c ++ entry t x ∷ []) (append s (admission c) c t x old proper)).ready in
        let less = fewer x (admission c).pods says in
        let none = silent x says in
        record { phase = none.0; mode = none.1; decision = none.2; ready = omega (arith, before, after, less) }
