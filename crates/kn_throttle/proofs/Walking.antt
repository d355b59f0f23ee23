-- What settling finds next, and the rows that it makes of it.
use Rattle.std.proofs.Common.{◌≡◌, ℕ, zero, suc, ◌+◌, ◌<◌, ◌≤◌, Bool, true, false, not, cond, ◌&&◌, ◌||◌, ◌⊎◌, inl, inr, List, [], ◌∷◌, ◌++◌, length, get_or, map, drop, nat_lt, ◌*◌, refl, sym, ap, subst, ◌∙◌, arith, append_assoc, add-one, drop-cons}
use Rattle.std.specs.Prelude.{Option, None, Some, IfSome, ◌==◌, if◌then◌else◌}
use Rattle.std.specs.List.{All, HoldsAt, filter, list_any, position_or_len}
use Rattle.std.proofs.lemmas.Bool.Decides.{nat_tests}
use Rattle.std.proofs.lemmas.Bool.{eqb-true, eq-eqb}
use Rattle.std.proofs.lemmas.List.Elements.{All-cons, All-head, All-nil, All-tail}
use Rattle.kn_event.specs.declared.entry.Entry.{Entry}
use Rattle.kn_event.specs.declared.entry.Row.{Row}
use Rattle.kn_event.specs.declared.entry.Row.TheVariants as row
use Rattle.kn_event.specs.declared.revision.Spec.{Spec}
use Rattle.kn_event.specs.Lists.{contains}
use Rattle.kn_trace.specs.declared.candidate.Cand.{Cand}
use Rattle.kn_trace.specs.Rows.{arrived_by, created_by}
use Rattle.kn_record.specs.Order.{AreTimed}
use Rattle.kn_trace.specs.Trace.{Trace, entry, first_of, is_empty}
use Rattle.kn_trace.specs.Choice.{chosen_pod, generator_at, has_seat}
use Rattle.kn_trace.specs.Settling.{promotions}
use Rattle.kn_breaker.specs.Breaker as breaker
use Rattle.kn_seats.specs.Seats as seats
use Rattle.kn_seats.specs.Pods.{has_free_seat, pod_at}
use Rattle.kn_policy.specs.Marks.{IsPlaceOf}
use Rattle.kn_policy.specs.Policy as policy
use Rattle.kn_policy.specs.Policy.{place_past, policy_at, words_in}
use Rattle.kn_record.specs.declared.admission.Place.TheVariants as place
use Rattle.kn_record.specs.declared.admission.Request.{Request}
use Rattle.kn_record.specs.declared.admission.Pod.{Pod}
use Rattle.kn_record.specs.Admission.{Admission, begins, candidate_of, candidates_in, capacity_in, is_assigned_place, is_at, is_draining_now, is_held_place, is_ready_now, next_in, placed_in, pods_in, queues_at, stepped, waits}
use Rattle.kn_record.specs.Made.{IsRecordOf}
use Rattle.kn_record.specs.Views.{has_free_seat_in, is_free, is_pod_where, pod_numbered, pod_numbers}
use Rattle.kn_record.specs.Walks.{BeginsWith, leaving_in, promoting}
use Rattle.kn_table.specs.Moves.{Moves}
use Rattle.kn_throttle.specs.declared.touched.Touched.{Touched}
use Rattle.kn_throttle.specs.declared.touched.Touched.TheVariants.{Nowhere, At}
use Rattle.kn_throttle.specs.Touched.{Covers}
use Rattle.kn_throttle.specs.Pods.{AreAscending, pods_where}
use Rattle.kn_throttle.specs.Settling.{AddsNobody, rows_left}
use Rattle.kn_throttle.specs.Kept.{IsKept, can_leave, can_run}
use Rattle.kn_throttle.proofs.Places.{above_first, not_named, rest_ascends}
use Rattle.kn_throttle.proofs.Same.{at-parts, eq-sym, length-placed, through-parts}
use Rattle.kn_throttle.proofs.Arriving.{cands-pods}
use Rattle.kn_throttle.proofs.Parts.{pod_of}
use Rattle.kn_throttle.proofs.Living.{but}
use Rattle.kn_throttle.proofs.Totals.{no_cand}
use Rattle.kn_throttle.proofs.Dispatching.{FoundFirst, found_where, less_begun}

pub both_parts : (x y : Bool) → (x && y) ≡ true → (x ≡ true) × (y ≡ true)
both_parts true true h = (refl, refl)
both_parts true false h = absurd (cc)
both_parts false y h = absurd (cc)

pub nothing_at : (xs : List ℕ) → is_empty xs ≡ true → xs ≡ []
nothing_at [] h = refl
nothing_at (x ∷ xs) h = absurd (cc)

-- ---- the first pod that passes

-- no pod passes
pub none_where : (test : Pod → Bool) (all : List Pod) → first_of (pods_where test all) ≡ None → All (λ (q : Pod). test q ≡ false) all
none_where test [] f = All-nil (λ (q : Pod). test q ≡ false)
none_where test (q ∷ all) f = by (test q) refl f (λ e. none_where test all e)
  where
    by : (b : Bool) → test q ≡ b → first_of (map (λ (q : Pod). q.number) (cond b (q ∷ filter test all) (filter test all))) ≡ None → (first_of (pods_where test all) ≡ None → All (λ (q : Pod). test q ≡ false) all) → All (λ (q : Pod). test q ≡ false) (q ∷ all)
    by true e f rest = absurd (cc)
    by false e f rest = All-cons (λ (q : Pod). test q ≡ false) q all e (rest f)

pub where_none : (test : Pod → Bool) (all : List Pod) → All (λ (q : Pod). test q ≡ false) all → pods_where test all ≡ []
where_none test [] h = refl
where_none test (q ∷ all) h =
    rw (All-head (λ (q : Pod). test q ≡ false) q all h) (where_none test all (All-tail (λ (q : Pod). test q ≡ false) q all h))

-- then nothing need be touched
pub covers_nowhere : (test : Pod → Bool) (all : List Pod) → first_of (pods_where test all) ≡ None → Covers test all Nowhere
covers_nowhere test all f = record { others = λ k d h u. none_where test all f k d h; named = tt }

pub nowhere_none : (test : Pod → Bool) (all : List Pod) → Covers test all Nowhere → None ≡ first_of (pods_where test all)
nowhere_none test all c = rw (where_none test all (λ k d h. c.others k d h refl)) refl

-- where one pod alone may pass
pub at_one : (test : Pod → Bool) (all : List Pod) (p : ℕ) (b : Bool) → AreAscending all → Covers test all (At p) → is_pod_where test (pod_numbered p all) ≡ b → (if b then Some p else None) ≡ first_of (pods_where test all)
at_one test all p b rise c h = one all rise c.others c.named h
  where
    one : (all : List Pod) → AreAscending all → All (λ (q : Pod). (p == q.number) ≡ false → test q ≡ false) all → contains p (pod_numbers all) ≡ true → is_pod_where test (pod_numbered p all) ≡ b → (if b then Some p else None) ≡ first_of (pods_where test all)
    one [] rise others named h = absurd (cc)
    one (q ∷ all) rise others named h =
        by (q.number == p) refl named h (λ e f. one all (rest_ascends (λ (q : Pod). q.number) q all rise) (All-tail (λ (q : Pod). (p == q.number) ≡ false → test q ≡ false) q all others) e f)
      where
        here : (p == q.number) ≡ false → test q ≡ false
        here = All-head (λ (q : Pod). (p == q.number) ≡ false → test q ≡ false) q all others

        rest_none : q.number ≡ p → pods_where test all ≡ []
        rest_none same = where_none test all (λ k d h.
            let above = above_first (λ (q : Pod). q.number) q all rise k d h in
            All-tail (λ (q : Pod). (p == q.number) ≡ false → test q ≡ false) q all others k d h (not_named p (get_or all k d).number (λ e. absurd (omega arith))))

        passes : (c : Bool) → test q ≡ c → c ≡ b → q.number ≡ p → (if b then Some p else None) ≡ first_of (map (λ (q : Pod). q.number) (cond c (q ∷ filter test all) (filter test all)))
        passes true e f same = rw (← f, same) refl
        passes false e f same = rw (← f, rest_none same) refl

        by : (m : Bool) → (q.number == p) ≡ m → (m || contains p (pod_numbers all)) ≡ true → is_pod_where test (if m then Some q else pod_numbered p all) ≡ b
            → (contains p (pod_numbers all) ≡ true → is_pod_where test (pod_numbered p all) ≡ b → (if b then Some p else None) ≡ first_of (pods_where test all)) → (if b then Some p else None) ≡ first_of (pods_where test (q ∷ all))
        by true e n f rest = passes (test q) refl f (eqb-true q.number p e)
        by false e n f rest = rw (here (eq-sym p q.number ∙ e)) (rest n f)

-- ---- each pod is the one of its number

pub each_found : (all : List Pod) → AreAscending all → All (λ (q : Pod). pod_numbered q.number all ≡ Some q) all
each_found [] rise = All-nil (λ (q : Pod). pod_numbered q.number [] ≡ Some q)
each_found (q ∷ all) rise =
    All-cons (λ (x : Pod). pod_numbered x.number (q ∷ all) ≡ Some x) q all (rw (eq-eqb q.number q.number refl) refl)
    (λ k d h. let above = above_first (λ (q : Pod). q.number) q all rise k d h in
    let other : (q.number == (get_or all k d).number) ≡ false = not_named q.number (get_or all k d).number (λ e. absurd (omega arith)) in
    rw other (each_found all (rest_ascends (λ (q : Pod). q.number) q all rise) k d h))

pub found_there : (p : ℕ) (all : List Pod) (q : Pod) → pod_numbered p all ≡ Some q → contains p (pod_numbers all) ≡ true
found_there p [] q f = absurd (cc)
found_there p (x ∷ all) q f = by (x.number == p) f (λ e. found_there p all q e)
  where
    by : (b : Bool) → (if b then Some x else pod_numbered p all) ≡ Some q → (pod_numbered p all ≡ Some q → contains p (pod_numbers all) ≡ true) → (b || contains p (pod_numbers all)) ≡ true
    by true f rest = refl
    by false f rest = rest f

-- ---- the seats say what a pod may do

pub run-seat : (s : Spec) (a : Admission) (b : breaker.State) (t : seats.State) (k : List Cand) (p : policy.State) (run leave : Touched) (n : ℕ) → IsKept s a b t k p run leave → contains n (pod_numbers a.pods) ≡ true
    → is_pod_where (can_run a.live) (pod_numbered n a.pods) ≡ (has_free_seat (pod_at n t.pods) && not (is_empty (pod_at n t.pods).queued))
run-seat s a b t k p run leave n h there =
    let pod = pod_of a.live n a.pods there in
    rw (h.seats, pod.seat, pod.found) refl

pub idle-seat : (s : Spec) (a : Admission) (b : breaker.State) (t : seats.State) (k : List Cand) (p : policy.State) (run leave : Touched) (n : ℕ) → IsKept s a b t k p run leave → contains n (pod_numbers a.pods) ≡ true
    → (pod_at n t.pods).running + length (pod_at n t.pods).queued ≡ length (placed_in (is_at n) a.live)
idle-seat s a b t k p run leave n h there =
    let pod = pod_of a.live n a.pods there in
    let parts = at-parts pod.pod.number a.live in
    rw (h.seats, pod.seat) (sym parts ∙ ap (λ (m : ℕ). length (placed_in (is_at m) a.live)) pod.number)

pub leave-seat : (s : Spec) (a : Admission) (b : breaker.State) (t : seats.State) (k : List Cand) (p : policy.State) (run leave : Touched) (n : ℕ) → IsKept s a b t k p run leave → contains n (pod_numbers a.pods) ≡ true
    → is_pod_where (can_leave a.live) (pod_numbered n a.pods) ≡ (is_pod_where (λ (q : Pod). is_draining_now q.readiness) (pod_numbered n a.pods) && is_empty (placed_in (is_at n) a.live))
leave-seat s a b t k p run leave n h there =
    let pod = pod_of a.live n a.pods there in
    rw pod.found (ap (λ (m : ℕ). is_draining_now pod.pod.readiness && is_empty (placed_in (is_at m) a.live)) pod.number)

pub no_queue : (b : Bool) (xs : List ℕ) → length xs ≡ 0 → (b && not (is_empty xs)) ≡ false
no_queue true [] h = refl
no_queue false [] h = refl
no_queue b (x ∷ xs) h = absurd (omega arith)

pub some_queue : (b : Bool) (xs : List ℕ) → (length xs ≡ 0 → ⊥) → b ≡ (b && not (is_empty xs))
some_queue b [] h = absurd (h refl)
some_queue true (x ∷ xs) h = refl
some_queue false (x ∷ xs) h = refl

pub nobody_there : (x y : ℕ) (xs : List ℕ) → x + y ≡ length xs → (x == 0 && y == 0) ≡ is_empty xs
nobody_there x y [] h = let none : x ≡ 0 = omega arith in let nor : y ≡ 0 = omega arith in rw (none, nor) refl
nobody_there x y (z ∷ xs) h = by (x == 0) refl
  where
    by : (b : Bool) → (x == 0) ≡ b → (b && y == 0) ≡ false
    by true e = let none : x ≡ 0 = eqb-true x 0 e in not_named y 0 (λ nor. absurd (omega arith))
    by false e = refl

-- each pod of the list is one of its numbers
pub number_at : (all : List Pod) (i : ℕ) (d : Pod) → i < length all → contains (get_or all i d).number (pod_numbers all) ≡ true
number_at [] i d h = absurd (omega arith)
number_at (q ∷ all) zero d h = rw (eq-eqb q.number q.number refl) refl
number_at (q ∷ all) (suc i) d h = more (q.number == (get_or all i d).number) _ (number_at all i d (omega arith))
  where
    more : (m b : Bool) → b ≡ true → (m || b) ≡ true
    more true b h = refl
    more false b h = h

-- one pod further
pub where-drop : (test : Pod → Bool) (all : List Pod) (i : ℕ) (d : Pod) → i < length all → pods_where test (drop i all) ≡ (if test (get_or all i d) then (get_or all i d).number ∷ pods_where test (drop (i + 1) all) else pods_where test (drop (i + 1) all))
where-drop test all i d h = rw (add-one, drop-cons all i d) (by (test (get_or all i d)))
  where
    by : (b : Bool) → map (λ (q : Pod). q.number) (cond b (get_or all i d ∷ filter test (drop (suc i) all)) (filter test (drop (suc i) all))) ≡ (if b then (get_or all i d).number ∷ pods_where test (drop (suc i) all) else pods_where test (drop (suc i) all))
    by true = refl
    by false = refl

-- what is asked of the pod at a place
pub passes-there : (test : Pod → Bool) (all : List Pod) (i : ℕ) (d : Pod) → AreAscending all → i < length all → is_pod_where test (pod_numbered (get_or all i d).number all) ≡ test (get_or all i d)
passes-there test all i d rise h = rw (each_found all rise i d h) refl

pub further : (test : Pod → Bool) (all : List Pod) (i : ℕ) (d : Pod) → AreAscending all → i < length all → is_pod_where test (pod_numbered (get_or all i d).number all) ≡ false
    → first_of (pods_where test all) ≡ first_of (pods_where test (drop i all)) → first_of (pods_where test all) ≡ first_of (pods_where test (drop (i + 1) all))
further test all i d rise h f e =
    let here : test (get_or all i d) ≡ false = sym (passes-there test all i d rise h) ∙ f in
    e ∙ ap (λ (l : List ℕ). first_of l) (where-drop test all i d h ∙ rw here refl)

pub found_here : (test : Pod → Bool) (all : List Pod) (i : ℕ) (d : Pod) → AreAscending all → i < length all → is_pod_where test (pod_numbered (get_or all i d).number all) ≡ true
    → first_of (pods_where test all) ≡ first_of (pods_where test (drop i all)) → Some (get_or all i d).number ≡ first_of (pods_where test all)
found_here test all i d rise h f e =
    let here : test (get_or all i d) ≡ true = sym (passes-there test all i d rise h) ∙ f in
    let step : pods_where test (drop i all) ≡ (get_or all i d).number ∷ pods_where test (drop (i + 1) all) = where-drop test all i d h ∙ rw here refl in
    sym (e ∙ ap (λ (l : List ℕ). first_of l) step)

-- the first that passes
pub record Passes (test : Pod → Bool) (all : List Pod) (p : ℕ) : Type 0 where
  pub pod : Pod
  pub number : pod.number ≡ p
  pub passes : test pod ≡ true
  pub there : contains p (pod_numbers all) ≡ true

pub first_passes : (test : Pod → Bool) (all : List Pod) (p : ℕ) → first_of (pods_where test all) ≡ Some p → Passes test all p
first_passes test [] p f = absurd (cc)
first_passes test (q ∷ all) p f = by (test q) refl f (λ e. first_passes test all p e)
  where
    or_more : (m b : Bool) → b ≡ true → (m || b) ≡ true
    or_more true b h = refl
    or_more false b h = h

    by : (b : Bool) → test q ≡ b → first_of (map (λ (q : Pod). q.number) (cond b (q ∷ filter test all) (filter test all))) ≡ Some p → (first_of (pods_where test all) ≡ Some p → Passes test all p) → Passes test (q ∷ all) p
    by true e f rest = let number : q.number ≡ p = cc in record { pod = q; number = number; passes = e; there = rw (eq-eqb q.number p number) refl }
    by false e f rest = let more = rest f in record { pod = more.pod; number = more.number; passes = more.passes; there = or_more (q.number == p) _ more.there }

pub empty_at : (live : List Request) (all : List Pod) (p : ℕ) → Passes (can_leave live) all p → placed_in (is_at p) live ≡ []
empty_at live all p h =
    let both = both_parts (is_draining_now h.pod.readiness) (is_empty (placed_in (is_at h.pod.number) live)) h.passes in
    nothing_at (placed_in (is_at p) live) (sym (ap (λ (m : ℕ). is_empty (placed_in (is_at m) live)) h.number) ∙ both.1)

-- with nobody there, no request is the first
pub none_at : (s : Spec) (a : Admission) (b : breaker.State) (t : seats.State) (k : List Cand) (p : policy.State) (run leave : Touched) (n : ℕ) → IsKept s a b t k p run leave → contains n (pod_numbers a.pods) ≡ true
    → ((pod_at n t.pods).running == 0 && length (pod_at n t.pods).queued == 0) ≡ true → None ≡ first_of (placed_in (is_at n) a.live)
none_at s a b t k p run leave n h there idle =
    sym (ap (λ (xs : List ℕ). first_of xs) (nothing_at (placed_in (is_at n) a.live) (sym (nobody_there _ _ (placed_in (is_at n) a.live) (idle-seat s a b t k p run leave n h there)) ∙ idle)))

-- where no pod has anything to do, nothing need be touched
pub kept_ran : (s : Spec) (a : Admission) (b : breaker.State) (t : seats.State) (k : List Cand) (p : policy.State) (run leave : Touched) → IsKept s a b t k p run leave → first_of (pods_where (can_run a.live) a.pods) ≡ None → IsKept s a b t k p Nowhere leave
kept_ran s a b t k p run leave h f = record { sound = h.sound; breaker = h.breaker; seats = h.seats; placed = h.placed; candidates = h.candidates; policy = h.policy; runs = covers_nowhere (can_run a.live) a.pods f; leaves = h.leaves }

pub kept_left_all : (s : Spec) (a : Admission) (b : breaker.State) (t : seats.State) (k : List Cand) (p : policy.State) (run leave : Touched) → IsKept s a b t k p run leave → first_of (pods_where (can_leave a.live) a.pods) ≡ None → IsKept s a b t k p run Nowhere
kept_left_all s a b t k p run leave h f = record { sound = h.sound; breaker = h.breaker; seats = h.seats; placed = h.placed; candidates = h.candidates; policy = h.policy; runs = h.runs; leaves = covers_nowhere (can_leave a.live) a.pods f }

-- ---- runs

-- p's run comes first, for the pods before it have none, and get none
pub walk_run : ((s : Spec) (a : Admission) (c : Trace) (t p : ℕ) (ps : List ℕ) (r : ℕ) → IsRecordOf a c → first_of (placed_in (queues_at p) a.live) ≡ Some r → has_free_seat_in a p ≡ true → BeginsWith (promoting t (p ∷ ps)) t (row.Run r) a c)
    → ((s : Spec) (a : Admission) (c : Trace) (t p : ℕ) (ps : List ℕ) → IsRecordOf a c → contains p (pod_numbers a.pods) ≡ true → (first_of (placed_in (queues_at p) a.live) ≡ None) ⊎ (has_free_seat_in a p ≡ false) → promoting t (p ∷ ps) c ≡ promoting t ps c)
    → (s : Spec) (a : Admission) (c : Trace) (t p r : ℕ) (all : List Pod) → IsRecordOf a c → All (λ (q : Pod). pod_numbered q.number a.pods ≡ Some q) all → Moves r (place.Queued p) (place.Running p false) a.live (begins r a.live)
    → first_of (pods_where (can_run a.live) all) ≡ Some p → first_of (placed_in (queues_at p) a.live) ≡ Some r → BeginsWith (promoting t (pod_numbers all)) t (row.Run r) a c
unfolding stepped
walk_run promote promoted s a c t p r [] h each m f g = absurd (cc)
walk_run promote promoted s a c t p r (q ∷ all) h each m f g =
    by (can_run a.live q) refl f (λ e. walk_run promote promoted s a c t p r all h (All-tail (λ (q : Pod). pod_numbered q.number a.pods ≡ Some q) q all each) m e g)
  where
    found : pod_numbered q.number a.pods ≡ Some q
    found = All-head (λ (q : Pod). pod_numbered q.number a.pods ≡ Some q) q all each

    there : contains q.number (pod_numbers a.pods) ≡ true
    there = found_there q.number a.pods q found

    free_part : (x y : Bool) → (x && y) ≡ true → x ≡ true
    free_part true y h = refl
    free_part false y h = absurd (cc)

    over : (live : List Request) → can_run live q ≡ false → (first_of (placed_in (queues_at q.number) live) ≡ None) ⊎ (is_free live q ≡ false)
    over live f = split (is_free live q) (placed_in (queues_at q.number) live) f
      where
        split : (b : Bool) (xs : List ℕ) → (b && not (is_empty xs)) ≡ false → (first_of xs ≡ None) ⊎ (b ≡ false)
        split false xs f = inr refl
        split true [] f = inl refl
        split true (x ∷ xs) f = absurd (cc)

    over_in : (live : List Request) → can_run live q ≡ false → (first_of (placed_in (queues_at q.number) live) ≡ None) ⊎ (has_free_seat_in (record a { live = live }) q.number ≡ false)
    over_in live f = split (over live f)
      where
        split : (first_of (placed_in (queues_at q.number) live) ≡ None) ⊎ (is_free live q ≡ false) → (first_of (placed_in (queues_at q.number) live) ≡ None) ⊎ (has_free_seat_in (record a { live = live }) q.number ≡ false)
        split (inl e) = inl e
        split (inr e) = inr (rw found e)

    by : (b : Bool) → can_run a.live q ≡ b → first_of (map (λ (q : Pod). q.number) (cond b (q ∷ filter (can_run a.live) all) (filter (can_run a.live) all))) ≡ Some p
        → (first_of (pods_where (can_run a.live) all) ≡ Some p → BeginsWith (promoting t (pod_numbers all)) t (row.Run r) a c) → BeginsWith (promoting t (q.number ∷ pod_numbers all)) t (row.Run r) a c
    by true e f rest =
        let same : q.number ≡ p = cc in
        let free : is_free a.live q ≡ true = free_part (is_free a.live q) _ e in
        promote s a c t q.number (pod_numbers all) r h (rw same g) (rw found free)
    by false e f rest =
        let more = rest f in (
          promoted s a c t q.number (pod_numbers all) h there (over_in a.live e) ∙ more.0
              ∙ ap (λ (l : List Entry). entry t (row.Run r) ∷ l) (sym (promoted s (record a { live = begins r a.live }) (c ++ entry t (row.Run r) ∷ []) t q.number (pod_numbers all) more.1 there (over_in (begins r a.live) (less_begun r p a.live (begins r a.live) m q e)))),
          more.1,
        )

-- no pod has one
pub walk_none : ((s : Spec) (a : Admission) (c : Trace) (t p : ℕ) (ps : List ℕ) → IsRecordOf a c → contains p (pod_numbers a.pods) ≡ true → (first_of (placed_in (queues_at p) a.live) ≡ None) ⊎ (has_free_seat_in a p ≡ false) → promoting t (p ∷ ps) c ≡ promoting t ps c)
    → (s : Spec) (a : Admission) (c : Trace) (t : ℕ) (all : List Pod) → IsRecordOf a c → All (λ (q : Pod). pod_numbered q.number a.pods ≡ Some q) all → All (λ (q : Pod). can_run a.live q ≡ false) all → promoting t (pod_numbers all) c ≡ []
unfolding promoting promotions
walk_none promoted s a c t [] h each none = refl
walk_none promoted s a c t (q ∷ all) h each none =
    let found = All-head (λ (q : Pod). pod_numbered q.number a.pods ≡ Some q) q all each in
    promoted s a c t q.number (pod_numbers all) h (found_there q.number a.pods q found) (by (is_free a.live q) refl (placed_in (queues_at q.number) a.live) refl (All-head (λ (q : Pod). can_run a.live q ≡ false) q all none) found)
    ∙ walk_none promoted s a c t all h (All-tail (λ (q : Pod). pod_numbered q.number a.pods ≡ Some q) q all each) (All-tail (λ (q : Pod). can_run a.live q ≡ false) q all none)
  where
    by : (b : Bool) → is_free a.live q ≡ b → (xs : List ℕ) → placed_in (queues_at q.number) a.live ≡ xs → (b && not (is_empty xs)) ≡ false → pod_numbered q.number a.pods ≡ Some q → (first_of xs ≡ None) ⊎ (has_free_seat_in a q.number ≡ false)
    by false e xs g f found = inr (rw found e)
    by true e [] g f found = inl refl
    by true e (x ∷ xs) g f found = absurd (cc)

-- ---- assignments

-- the candidates with a seat are the Ready pods with one
pub seats-where : (live : List Request) (all : List Pod) → map (λ (k : Cand). k.pod) (filter has_seat (candidates_in live all)) ≡ pods_where (λ q. is_ready_now q.readiness && is_free live q) all
unfolding candidates_in
seats-where live [] = refl
seats-where live (q ∷ all) = by (is_ready_now q.readiness) (is_free live q) refl (seats-where live all)
  where
    ready : List Pod
    ready = filter (λ (q : Pod). is_ready_now q.readiness) all

    by : (b f : Bool) → is_free live q ≡ f → map (λ (k : Cand). k.pod) (filter has_seat (map (candidate_of live) ready)) ≡ pods_where (λ q. is_ready_now q.readiness && is_free live q) all
        → map (λ (k : Cand). k.pod) (filter has_seat (map (candidate_of live) (cond b (q ∷ ready) ready)))
        ≡ map (λ (q : Pod). q.number) (cond (b && f) (q ∷ filter (λ q. is_ready_now q.readiness && is_free live q) all) (filter (λ q. is_ready_now q.readiness && is_free live q) all))
    by true true e rest = rw (e, rest) refl
    by true false e rest = rw e rest
    by false f e rest = rest

pub some_there : (r : ℕ) (xs : List ℕ) → contains r xs ≡ true → 0 < length xs
some_there r [] h = absurd (cc)
some_there r (x ∷ xs) h = omega arith

pub held_runs : (s : Spec) (a : Admission) (b : breaker.State) (t : seats.State) (k : List Cand) (p : policy.State) (run leave : Touched) (r : ℕ) → IsKept s a b t k p run leave → contains r (placed_in is_held_place a.live) ≡ true → b.running < b.in_flight
held_runs s a b t k p run leave r h held =
    let some = some_there r (placed_in is_held_place a.live) held in
    let parts = through-parts a.live in
    rw h.breaker (omega arith)

pub none_free : ((cc seed place picks : ℕ) (cands : List Cand) → list_any has_seat cands ≡ false → chosen_pod cc seed place picks cands ≡ None) → (s : Spec) (a : Admission) (b : breaker.State) (t : seats.State) (k : List Cand) (p : policy.State) (run leave : Touched) → IsKept s a b t k p run leave → list_any has_seat k ≡ false → next_in s a ≡ None
unfolding next_in
none_free law s a b t k p run leave h none = by (nat_lt (length (placed_in is_assigned_place a.live)) (capacity_in s.slots.max a.pods))
  where
    by : (b : Bool) → (if b then chosen_pod s.cc s.slots.seed a.robin a.assignments (candidates_in a.live a.pods) else None) ≡ None
    by true = law s.cc s.slots.seed a.robin a.assignments (candidates_in a.live a.pods) (rw h.candidates at none)
    by false = refl

pub none_room : (s : Spec) (a : Admission) (b : breaker.State) (t : seats.State) (k : List Cand) (p : policy.State) (run leave : Touched) → IsKept s a b t k p run leave → b.capacity ≤ b.running → next_in s a ≡ None
unfolding next_in
none_room s a b t k p run leave h full =
    let used : capacity_in s.slots.max a.pods ≤ length (placed_in is_assigned_place a.live) = rw h.breaker at full in
    let test : nat_lt (length (placed_in is_assigned_place a.live)) (capacity_in s.slots.max a.pods) ≡ false = grind (arith, nat_tests) in
    rw test refl

chosen_by : (s : Spec) (a : Admission) (b : breaker.State) (t : seats.State) (k : List Cand) (p : policy.State) (run leave : Touched) (n : ℕ) (l : List Cand) → IsKept s a b t k p run leave → l ≡ k
    → ((seed picks : ℕ) → (p.cc ≡ 0 → p.generator ≡ generator_at seed (2 * picks)) → chosen_pod p.cc seed p.place picks l ≡ Some n) → chosen_pod s.cc s.slots.seed a.robin a.assignments k ≡ Some n
unfolding policy_at
chosen_by s a b t k p run leave n l h e chosen =
    let made = chosen s.slots.seed a.assignments (λ random. ap (λ (x : policy.State). x.generator) h.policy ∙ ap (generator_at s.slots.seed) (words (ap (λ (x : policy.State). x.cc) (sym h.policy) ∙ random))) in
    sym (ap (λ (x : policy.State). chosen_pod x.cc s.slots.seed x.place a.assignments k) h.policy) ∙ rw e at made
  where
    words : s.cc ≡ 0 → words_in s.cc a.assignments ≡ 2 * a.assignments
    words random = rw random refl

-- the pod at the place that is answered is the chosen one, and the policy picked it
pub chosen_at : (s : Spec) (a : Admission) (b : breaker.State) (t : seats.State) (k : List Cand) (p : policy.State) (run leave : Touched) (n i : ℕ) (l : List Cand) (o : Option ℕ) → IsKept s a b t k p run leave → l ≡ k → o ≡ Some i
    → ((seed picks : ℕ) → (p.cc ≡ 0 → p.generator ≡ generator_at seed (2 * picks)) → IsPlaceOf (chosen_pod p.cc seed p.place picks l) l o) → HoldsAt (λ (q : Cand). q.pod ≡ n) k i → chosen_pod s.cc s.slots.seed a.robin a.assignments k ≡ Some n
chosen_at s a b t k p run leave n i l o h e f chosen pod =
    chosen_by s a b t k p run leave n l h e (λ seed picks at.
    let place = subst (λ (z : Option ℕ). IsPlaceOf (chosen_pod p.cc seed p.place picks l) l z) f (chosen seed picks at) in
    place.1 no_cand ∙ ap (λ (xs : List Cand). Some (get_or xs i no_cand).pod) e ∙ ap (λ (m : ℕ). Some m) (pod no_cand))

pub picked_at : (p x : policy.State) (k l : List Cand) (o : Option ℕ) (n i : ℕ) → l ≡ k → o ≡ Some i → IfSome o (HoldsAt (λ (q : Cand). x ≡ policy.picked q.pod l p) l) → HoldsAt (λ (q : Cand). q.pod ≡ n) k i → x ≡ policy.picked n l p
picked_at p x k l o n i e f made pod =
    let there = subst (λ (z : Option ℕ). IfSome z (HoldsAt (λ (q : Cand). x ≡ policy.picked q.pod l p) l)) f made in
    there no_cand ∙ ap (λ (m : ℕ). policy.picked m l p) (ap (λ (xs : List Cand). (get_or xs i no_cand).pod) e ∙ pod no_cand)

pub next_some : (s : Spec) (a : Admission) (b : breaker.State) (t : seats.State) (k : List Cand) (p : policy.State) (run leave : Touched) (n : ℕ) → IsKept s a b t k p run leave → (b.capacity ≤ b.running → ⊥) → chosen_pod s.cc s.slots.seed a.robin a.assignments k ≡ Some n → next_in s a ≡ Some n
unfolding next_in
next_some s a b t k p run leave n h room chosen =
    let unused : (capacity_in s.slots.max a.pods ≤ length (placed_in is_assigned_place a.live)) → ⊥ = rw h.breaker at room in
    let test : nat_lt (length (placed_in is_assigned_place a.live)) (capacity_in s.slots.max a.pods) ≡ true = less unused in
    rw test (rw h.candidates at chosen)
  where
    less : {x y : ℕ} → (y ≤ x → ⊥) → nat_lt x y ≡ true
    less {x} {y} h = by (nat_lt x y) refl
      where
        by : (b : Bool) → nat_lt x y ≡ b → b ≡ true
        by true e = refl
        by false e = absurd (h (grind (arith, nat_tests)))

-- a pod with a free seat that is Ready
pub seat_found : ((cc seed place picks p : ℕ) (cands : List Cand) → chosen_pod cc seed place picks cands ≡ Some p → contains p (map (λ (k : Cand). k.pod) (filter has_seat cands)) ≡ true) → (s : Spec) (a : Admission) (b : breaker.State) (t : seats.State) (k : List Cand) (p : policy.State) (run leave : Touched) (n : ℕ) → IsKept s a b t k p run leave
    → chosen_pod s.cc s.slots.seed a.robin a.assignments k ≡ Some n → FoundFirst (λ q. is_ready_now q.readiness && is_free a.live q) a.pods n
seat_found law s a b t k p run leave n h chosen =
    let seated = law s.cc s.slots.seed a.robin a.assignments n k chosen in
    found_where (λ q. is_ready_now q.readiness && is_free a.live q) a.pods n h.sound.order.pods (rw (h.candidates, seats-where a.live a.pods) at seated)

pub free-seat : (s : Spec) (a : Admission) (b : breaker.State) (t : seats.State) (k : List Cand) (p : policy.State) (run leave : Touched) (n : ℕ) → IsKept s a b t k p run leave → FoundFirst (λ q. is_ready_now q.readiness && is_free a.live q) a.pods n → has_free_seat (pod_at n t.pods) ≡ true
free-seat s a b t k p run leave n h found =
    let pod = pod_of a.live n a.pods found.there in
    let both = both_parts (is_ready_now found.pod.readiness) (is_free a.live found.pod) found.passes in
    rw (h.seats, pod.seat, some_same pod.pod found.pod (sym pod.found ∙ found.found)) both.1
  where
    some_same : (x y : Pod) → ◌≡◌ {A = Option Pod} (Some x) (Some y) → x ≡ y
    some_same x y e = cc

pub policy_after : (s : Spec) (p x : policy.State) (n robin assignments : ℕ) (l : List Cand) → ((cc seed place picks p : ℕ) (cands : List Cand) → policy.picked p cands (policy_at cc seed place picks) ≡ policy_at cc seed (place_past p cands) (picks + 1))
    → p ≡ policy_at s.cc s.slots.seed robin assignments → x ≡ policy.picked n l p → x ≡ policy_at s.cc s.slots.seed x.place (assignments + 1)
policy_after s p x n robin assignments l law h f =
    let place : x.place ≡ place_past n l = ap (λ (y : policy.State). y.place) f in
    f ∙ ap (λ (y : policy.State). policy.picked n l y) h ∙ law s.cc s.slots.seed robin assignments n l ∙ ap (λ (m : ℕ). policy_at s.cc s.slots.seed m (assignments + 1)) (sym place)

pub robin-after : (live : List Request) (all : List Pod) (k : List Cand) (p x : policy.State) (n : ℕ) → k ≡ candidates_in live all → x ≡ policy.picked n k p → x.place ≡ position_or_len (λ q. q == n) (pods_in is_ready_now all) + 1
robin-after live all k p x n h f =
    ap (λ (y : policy.State). y.place) f ∙ ap (λ (l : List ℕ). position_or_len (λ q. q == n) l + 1) (ap (λ (l : List Cand). map (λ (k : Cand). k.pod) l) h ∙ cands-pods live all)

-- ---- removals

pub leaving-where : (a : Admission) → leaving_in a ≡ pods_where (can_leave a.live) a.pods
leaving-where a = each a.pods
  where
    each : (all : List Pod) → filter (λ p. is_empty (placed_in (is_at p) a.live)) (pods_in is_draining_now all) ≡ pods_where (can_leave a.live) all
    each [] = refl
    each (q ∷ all) = by (is_draining_now q.readiness) (is_empty (placed_in (is_at q.number) a.live)) refl (each all)
      where
        by : (b e : Bool) → is_empty (placed_in (is_at q.number) a.live) ≡ e → filter (λ p. is_empty (placed_in (is_at p) a.live)) (pods_in is_draining_now all) ≡ pods_where (can_leave a.live) all
            → filter (λ p. is_empty (placed_in (is_at p) a.live)) (map (λ (q : Pod). q.number) (cond b (q ∷ filter (λ (q : Pod). is_draining_now q.readiness) all) (filter (λ (q : Pod). is_draining_now q.readiness) all)))
            ≡ map (λ (q : Pod). q.number) (cond (b && e) (q ∷ filter (can_leave a.live) all) (filter (can_leave a.live) all))
        by true true f rest = rw (f, rest) refl
        by true false f rest = rw f rest
        by false e f rest = rest

-- one pod goes
pub one_gone : (p : ℕ) (all : List Pod) → AreAscending all → contains p (pod_numbers all) ≡ true → length (but p all) + 1 ≡ length all
one_gone p [] rise h = absurd (cc)
one_gone p (q ∷ all) rise h = rw (eq-sym p q.number) (by (q.number == p) refl h (λ e. one_gone p all (rest_ascends (λ (q : Pod). q.number) q all rise) e))
  where
    none_go : (all : List Pod) → All (λ (x : Pod). p < x.number) all → length (but p all) ≡ length all
    none_go [] h = refl
    none_go (x ∷ all) h =
        let above : p < x.number = All-head (λ (x : Pod). p < x.number) x all h in
        let other : (p == x.number) ≡ false = not_named p x.number (λ e. absurd (omega arith)) in
        let rest = none_go all (All-tail (λ (x : Pod). p < x.number) x all h) in
        rw other (omega arith)

    by : (b : Bool) → (q.number == p) ≡ b → (b || contains p (pod_numbers all)) ≡ true → (contains p (pod_numbers all) ≡ true → length (but p all) + 1 ≡ length all) → length (cond (not b) (q ∷ but p all) (but p all)) + 1 ≡ length (q ∷ all)
    by true e h rest =
        let same : q.number ≡ p = eqb-true q.number p e in
        let higher : All (λ (x : Pod). p < x.number) all = λ k d h. (let above = above_first (λ (q : Pod). q.number) q all rise k d h in omega arith) in
        let none = none_go all higher in
        omega arith
    by false e h rest = let more = rest h in omega arith

-- ---- the whole of it

pub settled_logged : (old ran gave gone one two new : List Entry) → one ≡ old ++ ran → two ≡ one ++ gave → new ≡ two ++ gone → new ≡ old ++ ((ran ++ gave) ++ gone)
settled_logged old ran gave gone one two new e f g = g ∙ ap (λ (l : List Entry). l ++ gone) (f ∙ ap (λ (l : List Entry). l ++ gave) e) ∙ simp append_assoc

pub settled_whole : (c ran gave gone : List Entry) → ((c ++ ran) ++ gave) ++ gone ≡ c ++ ((ran ++ gave) ++ gone)
settled_whole c ran gave gone = simp append_assoc

-- no more rows are left than there is room for
pub rows_few : (s : Spec) (a : Admission) (b : breaker.State) (t : seats.State) (k : List Cand) (p : policy.State) (run leave : Touched) → IsKept s a b t k p run leave → rows_left a ≤ 40500
rows_few s a b t k p run leave h =
    let sound = h.sound in
    let few = sound.few in
    let pods = sound.few_pods in
    let waiting = length-placed waits a.live in
    omega arith

-- ---- who is added

pub nobody_yet : (a : Admission) → AddsNobody a a
nobody_yet a = record { arrivals = refl; created = refl; timed = λ clock h. h }

pub nobody_more : (a b c : Admission) → AddsNobody a b → AddsNobody b c → AddsNobody a c
nobody_more a b c h g = record { arrivals = g.arrivals ∙ h.arrivals; created = g.created ∙ h.created; timed = λ clock o. g.timed clock (h.timed clock o) }

-- a row that takes in no request and creates no pod
pub nobody_by : ((a : Admission) (clock t : ℕ) (x : Row) → AreTimed clock a → clock ≤ t → AreTimed t (stepped t x a)) → (a b c : Admission) (x : Row) → arrived_by x ≡ None → created_by x ≡ None
    → AddsNobody a b → ((t : ℕ) → c ≡ stepped t x b) → AddsNobody a c
unfolding stepped
nobody_by law a b c x none nor h after = nobody_more a b c h (record {
  arrivals = ap (λ (y : Admission). y.arrivals) (after 0) ∙ rw none refl;
  created = ap (λ (y : Admission). y.created) (after 0) ∙ rw nor refl;
  timed = λ clock o. rw (after clock) (law b clock clock x o (omega arith));
})
