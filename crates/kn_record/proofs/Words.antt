-- The views of requests in their own words are the views by place.
use Rattle.std.proofs.Common.{◌≡◌, ℕ, ◌+◌, Bool, true, false, not, cond, ◌&&◌, ◌||◌, ◌⊎◌, inl, inr, List, [], ◌∷◌, length, refl, sym, ap, ◌∙◌, arith}
use Rattle.std.specs.Prelude.{Option, None, Some, ◌==◌}
use Rattle.std.specs.Bool.{then_some}
use Rattle.std.specs.List.{filter, cons_option}
use Rattle.std.proofs.lemmas.Bool.{eqb-true, eq-eqb, false_from_ne_true, or_right}
use Rattle.kn_event.specs.declared.entry.Entry.{Entry}
use Rattle.kn_event.specs.declared.entry.Row.{Row}
use Rattle.kn_event.specs.declared.entry.Row.TheVariants as row
use Rattle.kn_event.specs.Lists.{contains}
use Rattle.kn_trace.specs.Rows.{admitted_by, assigned_by, brought_to, directed_by, pod_by, taken_by}
use Rattle.kn_trace.specs.Trace.{Trace, assigned, at_pod, each_row, ended, has_begun, has_not_begun, has_run, held, in_breaker, is_held, is_running, last_of, live, pod_of, proxied, running_at, waiting}
use Rattle.kn_trace.specs.Capacity.{in_use}
use Rattle.kn_record.specs.declared.admission.Place.{Place}
use Rattle.kn_record.specs.Rows.{moved_by, says}
use Rattle.kn_record.specs.Admission.{is_assigned_place, is_at, is_held_place, is_through, place_at, place_of, placed, runs_at, runs_somewhere, waits}
use Rattle.kn_record.specs.Made.{AreDistinct, IsNumbered}
use Rattle.kn_record.specs.Views.{others}
use Rattle.kn_record.proofs.Members.{contains-filter, contains-split, distinct-filter, filter-members, filter-others, other_number}
use Rattle.kn_record.proofs.Numbers.{admitted_taken, begun_taken, brought_moved, last_of-none, moved-none, moved_parts, moved_pod, moved_taken, says-true, pod-none, taken_parts, within-from}
use Rattle.kn_record.proofs.Steps.{filter-both}
use Rattle.kn_record.proofs.Reacting.{brought_distinct, distinct-fewer}

pub and-none : (b : Bool) → (b && false) ≡ false
and-none true = refl
and-none false = refl

and-all : (b : Bool) → (b && true) ≡ b
and-all true = refl
and-all false = refl

assigned_moved : (x : Row) → (assigned_by x ≡ None) ⊎ (assigned_by x ≡ moved_by x)
assigned_moved (row.Assign r p) = inr refl
assigned_moved _ = inl refl

-- ---- lists of the same members

-- taking out a member leaves one fewer
pub others-length : (r : ℕ) (ys : List ℕ) → AreDistinct ys → contains r ys ≡ true → length (others r ys) + 1 ≡ length ys
others-length r [] d h = absurd (cc)
others-length r (y ∷ ys) d h = by (r == y) refl (λ k. others-length r ys d.1 k)
  where
    by : (b : Bool) → (r == y) ≡ b → (contains r ys ≡ true → length (others r ys) + 1 ≡ length ys) → length (cond (not b) (y ∷ others r ys) (others r ys)) + 1 ≡ length (y ∷ ys)
    by true e rest =
        let same : r ≡ y = eqb-true r y e in
        let absent : contains r ys ≡ false = rw same d.0 in
        rw (filter-others r ys absent) (omega arith)
    by false e rest = let more = rest (second (y == r) (contains r ys) (other_number r y e) h) in omega arith
      where
        second : (a b : Bool) → a ≡ false → (a || b) ≡ true → b ≡ true
        second true b e h = absurd (cc)
        second false b e h = h

-- distinct lists of the same members are as long
pub same-length : (xs ys : List ℕ) → AreDistinct xs → AreDistinct ys → ((r : ℕ) → contains r xs ≡ contains r ys) → length xs ≡ length ys
same-length [] [] d e same = refl
same-length [] (y ∷ ys) d e same = absurd (let one = same y in let there : contains y (y ∷ ys) ≡ true = rw (eq-eqb y y refl) refl in cc)
same-length (x ∷ xs) ys d e same =
    let there : contains x ys ≡ true = sym (same x) ∙ rw (eq-eqb x x refl) refl in
    let less = others-length x ys e there in
    let rest = same-length xs (others x ys) d.1 (distinct-filter (λ q. not (x == q)) ys e) (λ r. by r (x == r) refl) in
    omega arith
  where
    by : (r : ℕ) (b : Bool) → (x == r) ≡ b → contains r xs ≡ contains r (others x ys)
    by r true k =
        let here : x ≡ r = eqb-true x r k in
        rw (contains-filter (λ q. not (x == q)) r ys, k) (rw (← here) (d.0 ∙ sym (none (contains x ys))))
      where
        none : (a : Bool) → (a && false) ≡ false
        none true = refl
        none false = refl
    by r false k = rw (contains-filter (λ q. not (x == q)) r ys, k) (two (contains r xs) (contains r ys) (rw k at (same r)))
      where
        two : (a b : Bool) → a ≡ b → a ≡ (b && true)
        two true true h = refl
        two false false h = refl
        two true false h = absurd (cc)
        two false true h = absurd (cc)

-- ---- the rows of one kind, as a filter of those of a wider one

pub in_rest : (f : Row → Option ℕ) (r : ℕ) (e : Entry) (d : Trace) → contains r (each_row f d) ≡ true → contains r (each_row f (e ∷ d)) ≡ true
in_rest f r e d h = by (f e.row)
  where
    by : (o : Option ℕ) → contains r (cons_option o (each_row f d)) ≡ true
    by None = h
    by (Some q) = or_right (q == r) (contains r (each_row f d)) h

pub in_first : (f : Row → Option ℕ) (r : ℕ) (e : Entry) (d : Trace) → f e.row ≡ Some r → contains r (each_row f (e ∷ d)) ≡ true
in_first f r e d h = rw (h, eq-eqb r r refl) refl

-- each row of g is f's or h's, the test holds of f's and not of h's: f's are those of g that pass
pub split-filter : (f h g : Row → Option ℕ) (t : ℕ → Bool) → ((x : Row) → ((f x ≡ g x) × (h x ≡ None)) ⊎ ((f x ≡ None) × (h x ≡ g x))) → (d : Trace)
    → ((r : ℕ) → contains r (each_row f d) ≡ true → t r ≡ true) → ((r : ℕ) → contains r (each_row h d) ≡ true → t r ≡ false) → each_row f d ≡ filter t (each_row g d)
split-filter f h g t parts [] passed stopped = refl
split-filter f h g t parts (e ∷ d) passed stopped =
    by (g e.row) refl (parts e.row) (split-filter f h g t parts d (λ r k. passed r (in_rest f r e d k)) (λ r k. stopped r (in_rest h r e d k)))
  where
    by : (o : Option ℕ) → g e.row ≡ o → ((f e.row ≡ g e.row) × (h e.row ≡ None)) ⊎ ((f e.row ≡ None) × (h e.row ≡ g e.row)) → each_row f d ≡ filter t (each_row g d)
        → cons_option (f e.row) (each_row f d) ≡ filter t (cons_option o (each_row g d))
    by None k (inl p) rest = rw (p.0, k) rest
    by None k (inr p) rest = rw (p.0) rest
    by (Some r) k (inl p) rest = rw (p.0, k, passed r (in_first f r e d (p.0 ∙ k))) (ap (λ (l : List ℕ). r ∷ l) rest)
    by (Some r) k (inr p) rest = rw (p.0, stopped r (in_first h r e d (p.1 ∙ k))) rest

-- the admitted requests, of those that were taken in
pub admitted-filter : (c : Trace) → IsNumbered c → each_row admitted_by c ≡ filter (λ r. contains r (each_row admitted_by c)) (each_row taken_by c)
admitted-filter c num = split-filter admitted_by directed_by taken_by (λ r. contains r (each_row admitted_by c)) taken_parts c (λ r h. h) num.direct

-- ---- what the flags of a request that was taken in say of each other

pub record Agrees (a d s n : Bool) (o : Option ℕ) : Type 0 where
  pub taken : (a || d) ≡ true
  pub direct : d ≡ true → a ≡ false
  pub assigned : s ≡ true → a ≡ true
  pub ran : n ≡ true → d ≡ true
  pub gone : o ≡ None → (s || d) ≡ false
  pub there : (s || d) ≡ false → o ≡ None

-- of a request that was taken in
pub agrees : (c : Trace) (r : ℕ) → IsNumbered c → contains r (each_row taken_by c) ≡ true → Agrees (contains r (each_row admitted_by c)) (contains r (each_row directed_by c)) (assigned c r) (has_run c r) (pod_of c r)
unfolding assigned pod_of
agrees c r num h = record {
  taken = sym (contains-split taken_by admitted_by directed_by taken_parts r c) ∙ h;
  direct = num.direct r;
  assigned = num.assigned r;
  ran = num.ran r;
  gone = λ e. sym (contains-split moved_by assigned_by directed_by moved_parts r c) ∙ moved-none r c (last_of-none (each_row (pod_by r) c) e);
  there = λ e. ap (λ (l : List ℕ). last_of l) (pod-none r c (contains-split moved_by assigned_by directed_by moved_parts r c ∙ e));
}

-- ---- whose place it is, by the flags

held_by : (a d s n g : Bool) (o : Option ℕ) → Agrees a d s n o → (a && (not s && not g)) ≡ (not g && is_held_place (place_at o s n))
held_by true d false n false None x = refl
held_by true d false n true None x = refl
held_by true d true n g None x = absurd (let e = x.gone refl in cc)
held_by true true s n g (Some p) x = absurd (let e = x.direct refl in cc)
held_by true false true n true (Some p) x = refl
held_by true false true n false (Some p) x = refl
held_by true false false n g (Some p) x = absurd (let e = x.there refl in cc)
held_by false false s n g o x = absurd (let e = x.taken in cc)
held_by false true s n g None x = absurd (let e = x.gone refl in by s e)
  where
    by : (s : Bool) → (s || true) ≡ false → ⊥
    by true e = absurd (cc)
    by false e = absurd (cc)
held_by false true true n g (Some p) x = absurd (let e = x.assigned refl in cc)
held_by false true false true true (Some p) x = refl
held_by false true false true false (Some p) x = refl
held_by false true false false true (Some p) x = refl
held_by false true false false false (Some p) x = refl

pub waiting_by : (a d s n g : Bool) (o : Option ℕ) → Agrees a d s n o → (not (s || n) && not g) ≡ (not g && waits (place_at o s n))
waiting_by a d true n g None x = absurd (let e = x.gone refl in cc)
waiting_by a true false n g None x = absurd (let e = x.gone refl in cc)
waiting_by a false false true g None x = absurd (let e = x.ran refl in cc)
waiting_by a false false false true None x = refl
waiting_by a false false false false None x = refl
waiting_by a d true n true (Some p) x = refl
waiting_by a d true n false (Some p) x = refl
waiting_by a d false true true (Some p) x = refl
waiting_by a d false true false (Some p) x = refl
waiting_by a d false false true (Some p) x = refl
waiting_by a d false false false (Some p) x = refl

breaker_by : (a d s n g : Bool) (o : Option ℕ) → Agrees a d s n o → (a && not g) ≡ (not g && is_through (place_at o s n))
breaker_by true d s n true None x = refl
breaker_by true d s n false None x = refl
breaker_by true d true n true (Some p) x = refl
breaker_by true d true n false (Some p) x = refl
breaker_by true true false n g (Some p) x = absurd (let e = x.direct refl in cc)
breaker_by true false false n g (Some p) x = absurd (let e = x.there refl in cc)
breaker_by false false s n g o x = absurd (let e = x.taken in cc)
breaker_by false true true n g o x = absurd (let e = x.assigned refl in cc)
breaker_by false true false n g None x = absurd (let e = x.gone refl in cc)
breaker_by false true false true true (Some p) x = refl
breaker_by false true false true false (Some p) x = refl
breaker_by false true false false true (Some p) x = refl
breaker_by false true false false false (Some p) x = refl

-- ---- the lists

-- the requests by place, as one filter of those that were taken in
pub placed-filter : (test : Place → Bool) (c : Trace) → placed test c ≡ filter (λ r. not (ended c r) && test (place_of c r)) (each_row taken_by c)
unfolding placed live
placed-filter test c = sym (filter-both (λ r. not (ended c r)) (λ r. test (place_of c r)) (each_row taken_by c))

-- the held requests
pub held-placed : (c : Trace) → IsNumbered c → held c ≡ placed is_held_place c
unfolding held is_held place_of
held-placed c num =
    ap (λ (l : List ℕ). filter (is_held c) l) (admitted-filter c num)
    ∙ sym (filter-both (λ r. contains r (each_row admitted_by c)) (is_held c) (each_row taken_by c))
    ∙ filter-members (λ r. contains r (each_row admitted_by c) && is_held c r) (λ r. not (ended c r) && is_held_place (place_of c r)) (each_row taken_by c)
    (λ r h. held_by _ _ _ _ (ended c r) _ (agrees c r num h))
    ∙ sym (placed-filter is_held_place c)

-- those in the breaker
pub in_breaker-placed : (c : Trace) → IsNumbered c → in_breaker c ≡ placed is_through c
unfolding in_breaker place_of
in_breaker-placed c num =
    ap (λ (l : List ℕ). filter (λ r. not (ended c r)) l) (admitted-filter c num)
    ∙ sym (filter-both (λ r. contains r (each_row admitted_by c)) (λ r. not (ended c r)) (each_row taken_by c))
    ∙ filter-members (λ r. contains r (each_row admitted_by c) && not (ended c r)) (λ r. not (ended c r) && is_through (place_of c r)) (each_row taken_by c)
    (λ r h. breaker_by _ _ _ _ (ended c r) _ (agrees c r num h))
    ∙ sym (placed-filter is_through c)

-- those that wait
pub waiting-placed : (c : Trace) → IsNumbered c → waiting c ≡ placed waits c
unfolding waiting has_not_begun has_begun place_of
waiting-placed c num =
    filter-members (has_not_begun c) (λ r. not (ended c r) && waits (place_of c r)) (each_row taken_by c)
    (λ r h. waiting_by _ _ _ _ (ended c r) _ (agrees c r num h))
    ∙ sym (placed-filter waits c)

-- ---- the pod that a request came to

pod_brought : (p r : ℕ) (x : Row) → pod_by r x ≡ Some p → brought_to p x ≡ Some r
pod_brought p r (row.Assign q u) h = by (q == r) refl h
  where
    by : (b : Bool) → (q == r) ≡ b → then_some b u ≡ Some p → then_some (u == p) q ≡ Some r
    by true e k = let a : q ≡ r = eqb-true q r e in let d : u ≡ p = cc in rw (d, eq-eqb p p refl, a) refl
    by false e k = absurd (cc)
pod_brought p r (row.Direct q u) h = by (q == r) refl h
  where
    by : (b : Bool) → (q == r) ≡ b → then_some b u ≡ Some p → then_some (u == p) q ≡ Some r
    by true e k = let a : q ≡ r = eqb-true q r e in let d : u ≡ p = cc in rw (d, eq-eqb p p refl, a) refl
    by false e k = absurd (cc)
pod_brought p r _ h = absurd (cc)

brought_pod : (p r : ℕ) (x : Row) → brought_to p x ≡ Some r → pod_by r x ≡ Some p
brought_pod p r (row.Assign q u) h = by (u == p) refl h
  where
    by : (b : Bool) → (u == p) ≡ b → then_some b q ≡ Some r → then_some (q == r) u ≡ Some p
    by true e k = let a : u ≡ p = eqb-true u p e in let d : q ≡ r = cc in rw (d, eq-eqb r r refl, a) refl
    by false e k = absurd (cc)
brought_pod p r (row.Direct q u) h = by (u == p) refl h
  where
    by : (b : Bool) → (u == p) ≡ b → then_some b q ≡ Some r → then_some (q == r) u ≡ Some p
    by true e k = let a : u ≡ p = eqb-true u p e in let d : q ≡ r = cc in rw (d, eq-eqb r r refl, a) refl
    by false e k = absurd (cc)
brought_pod p r _ h = absurd (cc)

-- it came there where that is the last pod that it came to
pub pod_brought_in : (p r : ℕ) (c : Trace) → last_of (each_row (pod_by r) c) ≡ Some p → contains r (each_row (brought_to p) c) ≡ true
pod_brought_in p r [] h = absurd (cc)
pod_brought_in p r (e ∷ c) h = by (pod_by r e.row) refl (last_of (each_row (pod_by r) c)) refl h (λ k. in_rest (brought_to p) r e c (pod_brought_in p r c k))
  where
    by : (o : Option ℕ) → pod_by r e.row ≡ o → (l : Option ℕ) → last_of (each_row (pod_by r) c) ≡ l → last_of (cons_option o (each_row (pod_by r) c)) ≡ Some p
        → (last_of (each_row (pod_by r) c) ≡ Some p → contains r (each_row (brought_to p) (e ∷ c)) ≡ true) → contains r (each_row (brought_to p) (e ∷ c)) ≡ true
    by None k l m h rest = rest h
    by (Some u) k None m h rest = in_first (brought_to p) r e c (pod_brought p r e.row (k ∙ (rw m at h)))
    by (Some u) k (Some v) m h rest = rest (m ∙ (rw m at h))

-- and a request comes to one pod alone
pub brought_is : (p r : ℕ) (c : Trace) → AreDistinct (each_row moved_by c) → contains r (each_row (brought_to p) c) ≡ true → each_row (pod_by r) c ≡ p ∷ []
brought_is p r [] d h = absurd (cc)
brought_is p r (e ∷ c) d h = by (says (brought_to p e.row) r) refl h (moved_by e.row) refl d (λ f k. brought_is p r c f k)
  where
    later : (o : Option ℕ) → says o r ≡ false → contains r (cons_option o (each_row (brought_to p) c)) ≡ true → contains r (each_row (brought_to p) c) ≡ true
    later None s k = k
    later (Some q) s k = rw s at k

    -- the first entry brings it
    first : (o : Option ℕ) → o ≡ Some r → AreDistinct (cons_option o (each_row moved_by c)) → contains r (each_row moved_by c) ≡ false
    first None e d = absurd (cc)
    first (Some q) e d = let same : q ≡ r = cc in rw (← same) d.0

    moves : brought_to p e.row ≡ Some r → (brought_to p e.row ≡ None) ⊎ (brought_to p e.row ≡ moved_by e.row) → moved_by e.row ≡ Some r
    moves k (inl n) = absurd (cc)
    moves k (inr n) = sym n ∙ k

    -- a later one does: then the first doesn't
    rest_distinct : (o : Option ℕ) → AreDistinct (cons_option o (each_row moved_by c)) → AreDistinct (each_row moved_by c)
    rest_distinct None d = d
    rest_distinct (Some q) d = d.1

    unmoved : (o : Option ℕ) → AreDistinct (cons_option o (each_row moved_by c)) → contains r (each_row moved_by c) ≡ true → says o r ≡ false
    unmoved None d k = refl
    unmoved (Some q) d k = false_from_ne_true (q == r) (λ m. let same : q ≡ r = eqb-true q r m in let absent : contains r (each_row moved_by c) ≡ false = rw (← same) d.0 in absurd (cc))

    by : (b : Bool) → says (brought_to p e.row) r ≡ b → contains r (cons_option (brought_to p e.row) (each_row (brought_to p) c)) ≡ true → (o : Option ℕ) → moved_by e.row ≡ o → AreDistinct (cons_option o (each_row moved_by c))
        → (AreDistinct (each_row moved_by c) → contains r (each_row (brought_to p) c) ≡ true → each_row (pod_by r) c ≡ p ∷ []) → cons_option (pod_by r e.row) (each_row (pod_by r) c) ≡ p ∷ []
    by true s h o m d rest =
        let here = says-true (brought_to p e.row) r s in
        let absent = first o (sym m ∙ moves here (brought_moved p e.row)) d in
        rw (brought_pod p r e.row here, pod-none r c absent) refl
    by false s h o m d rest =
        let there = later (brought_to p e.row) s h in
        let none = moved_pod r e.row (ap (λ (o : Option ℕ). says o r) m ∙ unmoved o d (within-from (brought_to p) moved_by (brought_moved p) r c there)) in
        rw none (rest (rest_distinct o d) there)

-- a request that was sent to a pod is there
pub pod_is : (c : Trace) (p r : ℕ) → IsNumbered c → contains r (each_row (brought_to p) c) ≡ true → pod_of c r ≡ Some p
unfolding pod_of
pod_is c p r num h = rw (brought_is p r c num.moved h) refl

-- and the other way round
pub pod_came : (c : Trace) (p r : ℕ) → pod_of c r ≡ Some p → contains r (each_row (brought_to p) c) ≡ true
unfolding pod_of
pod_came c p r h = pod_brought_in p r c h

-- ---- the requests at a pod, as a set

-- those that came to p are those taken in whose place is at p
at_by : (b k : Bool) (p : ℕ) (o : Option ℕ) (s n : Bool) → (b ≡ true → o ≡ Some p) → (o ≡ Some p → b ≡ true) → (b ≡ true → k ≡ true) → b ≡ (k && is_at p (place_at o s n))
at_by true k p o s n to from taken = rw (to refl, taken refl) (by s n)
  where
    by : (s n : Bool) → true ≡ (true && is_at p (place_at (Some p) s n))
    by true n = sym (eq-eqb p p refl)
    by false true = sym (eq-eqb p p refl)
    by false false = sym (eq-eqb p p refl)
at_by false k p None s n to from taken = by k
  where
    by : (k : Bool) → false ≡ (k && false)
    by true = refl
    by false = refl
at_by false k p (Some q) s n to from taken = by (q == p) refl k s n
  where
    by : (b : Bool) → (q == p) ≡ b → (k s n : Bool) → false ≡ (k && is_at p (place_at (Some q) s n))
    by true e k s n = absurd (let same : q ≡ p = eqb-true q p e in let wrong : false ≡ true = from (rw same refl) in cc)
    by false e true true n = sym e
    by false e true false true = sym e
    by false e true false false = sym e
    by false e false s n = refl

brought_at : (c : Trace) (p r : ℕ) → IsNumbered c → contains r (each_row (brought_to p) c) ≡ (contains r (each_row taken_by c) && is_at p (place_of c r))
unfolding place_of
brought_at c p r num =
    at_by (contains r (each_row (brought_to p) c)) (contains r (each_row taken_by c)) p (pod_of c r) (assigned c r) (has_run c r) (pod_is c p r num) (pod_came c p r)
    (λ h. moved_taken c r num (within-from (brought_to p) moved_by (brought_moved p) r c h))

contains-placed : (test : Place → Bool) (c : Trace) (r : ℕ) → contains r (placed test c) ≡ (contains r (each_row taken_by c) && (not (ended c r) && test (place_of c r)))
contains-placed test c r = ap (λ (l : List ℕ). contains r l) (placed-filter test c) ∙ contains-filter (λ r. not (ended c r) && test (place_of c r)) r (each_row taken_by c)

-- who is at a pod
pub at_pod-members : (c : Trace) (p r : ℕ) → IsNumbered c → contains r (at_pod c p) ≡ contains r (placed (is_at p) c)
unfolding at_pod
at_pod-members c p r num =
    contains-filter (λ r. not (ended c r)) r (each_row (brought_to p) c)
    ∙ rw (brought_at c p r num, contains-placed (is_at p) c r) (by (contains r (each_row taken_by c)) (is_at p (place_of c r)) (ended c r))
  where
    by : (k a g : Bool) → ((k && a) && not g) ≡ (k && (not g && a))
    by false a g = refl
    by true true true = refl
    by true true false = refl
    by true false g = sym (and-none (not g))

running_by : (k g s n : Bool) (p : ℕ) (o : Option ℕ) → ((k && is_at p (place_at o s n)) && ((s || n) && not g)) ≡ (k && (not g && runs_at p (place_at o s n)))
running_by false g s n p o = refl
running_by true true s n p None = refl
running_by true false s n p None = refl
running_by true true true n p (Some q) = and-none (q == p)
running_by true false true n p (Some q) = and-all (q == p)
running_by true true false true p (Some q) = and-none (q == p)
running_by true false false true p (Some q) = and-all (q == p)
running_by true true false false p (Some q) = and-none (q == p)
running_by true false false false p (Some q) = and-none (q == p)

-- who runs there
pub running_at-members : (c : Trace) (p r : ℕ) → IsNumbered c → contains r (running_at c p) ≡ contains r (placed (runs_at p) c)
unfolding running_at is_running has_begun place_of
running_at-members c p r num =
    contains-filter (is_running c) r (each_row (brought_to p) c)
    ∙ rw (brought_at c p r num, contains-placed (runs_at p) c r) (running_by (contains r (each_row taken_by c)) (ended c r) (assigned c r) (has_run c r) p (pod_of c r))

use_by : (a d s n g k : Bool) (o : Option ℕ) → (k ≡ true → Agrees a d s n o) → (s ≡ true → k ≡ true) → (s && not g) ≡ (k && (not g && is_assigned_place (place_at o s n)))
use_by a d s n g true None x t = by s (x refl)
  where
    by : (s : Bool) → Agrees a d s n None → (s && not g) ≡ (not g && false)
    by true x = absurd (let e = x.gone refl in cc)
    by false x = sym (and-none (not g))
use_by a d true n g true (Some p) x t = by g
  where
    by : (g : Bool) → not g ≡ (not g && true)
    by true = refl
    by false = refl
use_by a d false true g true (Some p) x t = sym (and-none (not g))
use_by a d false false g true (Some p) x t = sym (and-none (not g))
use_by a d true n g false o x t = absurd (let e = t refl in cc)
use_by a d false n g false o x t = refl

-- ---- how many there are

taken_distinct : (c : Trace) (test : Place → Bool) → IsNumbered c → AreDistinct (placed test c)
taken_distinct c test num = rw (placed-filter test c) (distinct-filter (λ r. not (ended c r) && test (place_of c r)) (each_row taken_by c) num.once)

-- how many are at a pod
pub at_pod-count : (c : Trace) (p : ℕ) → IsNumbered c → length (at_pod c p) ≡ length (placed (is_at p) c)
unfolding at_pod
at_pod-count c p num =
    same-length (at_pod c p) (placed (is_at p) c) (distinct-filter (λ r. not (ended c r)) (each_row (brought_to p) c) (brought_distinct c p num)) (taken_distinct c (is_at p) num) (λ r. at_pod-members c p r num)

-- how many run there
pub running_at-count : (c : Trace) (p : ℕ) → IsNumbered c → length (running_at c p) ≡ length (placed (runs_at p) c)
unfolding running_at
running_at-count c p num =
    same-length (running_at c p) (placed (runs_at p) c) (distinct-filter (is_running c) (each_row (brought_to p) c) (brought_distinct c p num)) (taken_distinct c (runs_at p) num) (λ r. running_at-members c p r num)

-- who came through the activator to a pod
pub proxied-placed : (c : Trace) (r : ℕ) → IsNumbered c → proxied c r ≡ contains r (placed is_assigned_place c)
unfolding proxied place_of
proxied-placed c r num =
    use_by _ _ (assigned c r) (has_run c r) (ended c r) (contains r (each_row taken_by c)) (pod_of c r) (agrees c r num) (λ h. within-from admitted_by taken_by admitted_taken r c (num.assigned r h))
    ∙ sym (contains-placed is_assigned_place c r)

-- how many are in use
pub in_use-count : (c : Trace) → IsNumbered c → in_use c ≡ length (placed is_assigned_place c)
unfolding in_use proxied assigned
in_use-count c num =
    same-length (filter (λ r. not (ended c r)) (each_row assigned_by c)) (placed is_assigned_place c)
    (distinct-filter (λ r. not (ended c r)) (each_row assigned_by c) (distinct-fewer (λ (e : Entry). assigned_by e.row) (λ (e : Entry). moved_by e.row) (λ e. assigned_moved e.row) c num.moved))
    (taken_distinct c is_assigned_place num) (λ r. contains-filter (λ r. not (ended c r)) r (each_row assigned_by c) ∙ proxied-placed c r num)

-- a request runs where its place says so
running_somewhere : (k g s n : Bool) (o : Option ℕ) → ((s || n) ≡ true → k ≡ true) → (k ≡ true → o ≡ None → (s || n) ≡ false) → ((s || n) && not g) ≡ (k && (not g && runs_somewhere (place_at o s n)))
running_somewhere true g s n None t x = rw (x refl refl) (sym (and-none (not g)))
running_somewhere true g true n (Some p) t x = sym (and-all (not g))
running_somewhere true g false true (Some p) t x = sym (and-all (not g))
running_somewhere true g false false (Some p) t x = sym (and-none (not g))
running_somewhere false g true n o t x = absurd (let e = t refl in cc)
running_somewhere false g false true o t x = absurd (let e = t refl in cc)
running_somewhere false g false false o t x = refl

-- whether a request runs
pub is_running-placed : (c : Trace) (r : ℕ) → IsNumbered c → is_running c r ≡ contains r (placed runs_somewhere c)
unfolding is_running has_begun place_of
is_running-placed c r num =
    running_somewhere (contains r (each_row taken_by c)) (ended c r) (assigned c r) (has_run c r) (pod_of c r) (begun_taken c r num) (λ k e. idle (agrees c r num k) e)
    ∙ sym (contains-placed runs_somewhere c r)
  where
    idle : Agrees (contains r (each_row admitted_by c)) (contains r (each_row directed_by c)) (assigned c r) (has_run c r) (pod_of c r) → pod_of c r ≡ None → (assigned c r || has_run c r) ≡ false
    idle x e = by (assigned c r) (has_run c r) (contains r (each_row directed_by c)) (x.gone e) x.ran
      where
        by : (s n d : Bool) → (s || d) ≡ false → (n ≡ true → d ≡ true) → (s || n) ≡ false
        by true n d h k = absurd (cc)
        by false true true h k = absurd (cc)
        by false true false h k = absurd (let e = k refl in cc)
        by false false d h k = refl
