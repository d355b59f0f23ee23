-- What is kept when a queued request runs, and when a held one is assigned.
use Rattle.std.proofs.Common.{◌≡◌, ℕ, zero, suc, ◌+◌, ◌<◌, ◌^◌, Bool, true, false, not, cond, ◌&&◌, ◌||◌, List, [], ◌∷◌, length, drop, map, nat_lt, refl, sym, ap, ◌∙◌, arith}
use Rattle.std.specs.Prelude.{Option, None, Some, ◌==◌, slice_get, if◌then◌else◌}
use Rattle.std.specs.List.{All, filter}
use Rattle.std.proofs.lemmas.Bool.{eqb-true, eq-eqb}
use Rattle.std.proofs.lemmas.Bool.Decides.{nat_tests}
use Rattle.kn_event.specs.declared.revision.Spec.{Spec}
use Rattle.kn_event.specs.Lists.{contains}
use Rattle.kn_trace.specs.declared.candidate.Cand.{Cand}
use Rattle.kn_trace.specs.Trace.{first_of, is_empty}
use Rattle.kn_breaker.specs.Breaker as breaker
use Rattle.kn_seats.specs.Seats as seats
use Rattle.kn_seats.specs.Pods.{has_free_seat, pod_at, requests_at_all}
use Rattle.kn_seats.specs.Pods as seat
use Rattle.kn_policy.specs.Policy as policy
use Rattle.kn_policy.specs.Policy.{policy_at}
use Rattle.kn_record.specs.declared.admission.Place.TheVariants as place
use Rattle.kn_record.specs.declared.admission.Request.{Request}
use Rattle.kn_record.specs.declared.admission.Pod.{Pod}
use Rattle.kn_record.specs.Admission.{Admission, candidate_of, candidates_in, is_assigned_place, is_at, is_draining_now, is_held_place, is_ready_now, is_through, placed_in, queues_at, runs_at}
use Rattle.kn_record.specs.Order.{IsInOrder}
use Rattle.kn_record.specs.Views.{is_free, pod_numbered, pod_numbers}
use Rattle.kn_table.specs.Moves.{Moves}
use Rattle.kn_throttle.specs.declared.touched.Touched.{Touched}
use Rattle.kn_throttle.specs.Candidates as cands
use Rattle.kn_throttle.specs.Candidates.{with_changed}
use Rattle.kn_throttle.specs.Pods.{AreAscending, pods_where}
use Rattle.kn_throttle.specs.Kept.{IsKept, can_leave, can_run, seat_of}
use Rattle.kn_throttle.proofs.Once.{first_once, others}
use Rattle.kn_throttle.proofs.Places.{above_first, not_named, rest_ascends}
use Rattle.kn_throttle.proofs.Same.{SameAt, eq-sym, length-placed, same_assigned, same_begun, same_can_leave, same_can_run}
use Rattle.kn_throttle.proofs.Parts.{cands_at, covers_less, pod_of, seats_at}
use Rattle.kn_throttle.proofs.Coming.{below_there}

-- ---- a pod that passes a test

pub record FoundFirst (test : Pod → Bool) (all : List Pod) (p : ℕ) : Type 0 where
  pub pod : Pod
  pub found : pod_numbered p all ≡ Some pod
  pub number : pod.number ≡ p
  pub passes : test pod ≡ true
  pub there : contains p (pod_numbers all) ≡ true

pub found_where : (test : Pod → Bool) (all : List Pod) (p : ℕ) → AreAscending all → contains p (pods_where test all) ≡ true → FoundFirst test all p
found_where test [] p rise f = absurd (cc)
found_where test (q ∷ all) p rise f = by (test q) refl (q.number == p) refl f (λ e. found_where test all p (rest_ascends (λ (q : Pod). q.number) q all rise) e)
  where
    later : (contains p (pods_where test all) ≡ true → FoundFirst test all p) → contains p (pods_where test all) ≡ true → FoundFirst test (q ∷ all) p
    later rest f =
        let more = rest f in
        let below = below_there p q.number all (λ k d h. above_first (λ (q : Pod). q.number) q all rise k d h) more.there in
        let other : (q.number == p) ≡ false = not_named q.number p (λ e. absurd (omega arith)) in
        record { pod = more.pod; found = rw other more.found; number = more.number; passes = more.passes; there = rw other more.there }

    by : (b : Bool) → test q ≡ b → (m : Bool) → (q.number == p) ≡ m → contains p (map (λ (q : Pod). q.number) (cond b (q ∷ filter test all) (filter test all))) ≡ true → (contains p (pods_where test all) ≡ true → FoundFirst test all p) → FoundFirst test (q ∷ all) p
    by true e true n f rest = record { pod = q; found = rw n refl; number = eqb-true q.number p n; passes = e; there = rw n refl }
    by true e false n f rest = later rest (rw n at f)
    by false e m n f rest = later rest f

pub first_there : (r : ℕ) (xs : List ℕ) → first_of xs ≡ Some r → contains r xs ≡ true
first_there r [] h = absurd (cc)
first_there r (x ∷ xs) h = let same : x ≡ r = cc in rw (eq-eqb x r same) refl

-- ---- no pod can run one that couldn't

less_free : (limit run : ℕ) (xs ys : List ℕ) → ((limit == 0 || nat_lt run limit) && not (is_empty xs)) ≡ false → (is_empty xs ≡ true → is_empty ys ≡ true) → ((limit == 0 || nat_lt (run + 1) limit) && not (is_empty ys)) ≡ false
less_free limit run [] ys f empty = rw (empty refl) (and_false (limit == 0 || nat_lt (run + 1) limit))
  where
    and_false : (b : Bool) → (b && false) ≡ false
    and_false true = refl
    and_false false = refl
less_free limit run (x ∷ xs) ys f empty = rw (more (and_true (limit == 0 || nat_lt run limit) f)) refl
  where
    and_true : (b : Bool) → (b && true) ≡ false → b ≡ false
    and_true true h = absurd (cc)
    and_true false h = refl

    more : (limit == 0 || nat_lt run limit) ≡ false → (limit == 0 || nat_lt (run + 1) limit) ≡ false
    more h = by (limit == 0) refl h
      where
        by : (b : Bool) → (limit == 0) ≡ b → (b || nat_lt run limit) ≡ false → (b || nat_lt (run + 1) limit) ≡ false
        by true e h = absurd (cc)
        by false e h = grind (arith, nat_tests)

none_of_none : (r : ℕ) (xs : List ℕ) → is_empty xs ≡ true → is_empty (others r xs) ≡ true
none_of_none r [] h = refl
none_of_none r (x ∷ xs) h = absurd (cc)

pub less_begun : (r n : ℕ) (old new : List Request) → Moves r (place.Queued n) (place.Running n false) old new → (q : Pod) → can_run old q ≡ false → can_run new q ≡ false
less_begun r n old new m q f = by (n == q.number) refl
  where
    by : (b : Bool) → (n == q.number) ≡ b → can_run new q ≡ false
    by false e = same_can_run old new q (same_begun r q.number n old new m e) ∙ f
    by true e =
        let count : length (placed_in (runs_at q.number) new) + 0 ≡ length (placed_in (runs_at q.number) old) + 1 = rw e at (m.counts (runs_at q.number)) in
        let more : length (placed_in (runs_at q.number) new) ≡ length (placed_in (runs_at q.number) old) + 1 = omega arith in
        rw (more, m.left (queues_at q.number) refl) (less_free q.limit (length (placed_in (runs_at q.number) old)) (placed_in (queues_at q.number) old) (others r (placed_in (queues_at q.number) old)) f (none_of_none r (placed_in (queues_at q.number) old)))

pub less_assigned : (r n : ℕ) (old new : List Request) → Moves r place.Held (place.Running n true) old new → (q : Pod) → can_run old q ≡ false → can_run new q ≡ false
less_assigned r n old new m q f = by (n == q.number) refl
  where
    by : (b : Bool) → (n == q.number) ≡ b → can_run new q ≡ false
    by false e = same_can_run old new q (same_assigned r q.number n old new m e) ∙ f
    by true e =
        let count : length (placed_in (runs_at q.number) new) + 0 ≡ length (placed_in (runs_at q.number) old) + 1 = rw e at (m.counts (runs_at q.number)) in
        let more : length (placed_in (runs_at q.number) new) ≡ length (placed_in (runs_at q.number) old) + 1 = omega arith in
        rw (more, m.same (queues_at q.number) refl) (less_free q.limit (length (placed_in (runs_at q.number) old)) (placed_in (queues_at q.number) old) (placed_in (queues_at q.number) old) f (λ h. h))

-- an assigned request's pod isn't empty
still_there : (r n : ℕ) (old new : List Request) → Moves r place.Held (place.Running n true) old new → (q : Pod) → can_leave old q ≡ false → can_leave new q ≡ false
still_there r n old new m q f = by (n == q.number) refl
  where
    filled : (d : Bool) (xs : List ℕ) → 0 < length xs → (d && is_empty xs) ≡ false
    filled d [] h = absurd (omega arith)
    filled true (x ∷ xs) h = refl
    filled false (x ∷ xs) h = refl

    by : (b : Bool) → (n == q.number) ≡ b → can_leave new q ≡ false
    by false e = same_can_leave old new q (same_assigned r q.number n old new m e) ∙ f
    by true e =
        let count : length (placed_in (is_at q.number) new) + 0 ≡ length (placed_in (is_at q.number) old) + 1 = rw e at (m.counts (is_at q.number)) in
        filled (is_draining_now q.readiness) (placed_in (is_at q.number) new) (omega arith)

-- ---- what the seats answer

pub record RunsNext (live : List Request) (n : ℕ) (o : Option ℕ) : Type 0 where
  pub r : ℕ
  pub is : o ≡ Some r
  pub first : first_of (placed_in (queues_at n) live) ≡ Some r

pub runs_next : (s : Spec) (a : Admission) (b : breaker.State) (t : seats.State) (k : List Cand) (p : policy.State) (run leave : Touched) (n : ℕ) (o : Option ℕ) → IsKept s a b t k p run leave → FoundFirst (can_run a.live) a.pods n
    → o ≡ (if has_free_seat (pod_at n t.pods) then slice_get (pod_at n t.pods).queued 0 else None) → RunsNext a.live n o
runs_next s a b t k p run leave n o h found e =
    let pod = pod_of a.live n a.pods found.there in
    let same : pod.pod ≡ found.pod = some_same pod.pod found.pod (sym pod.found ∙ found.found) in
    let passes : can_run a.live pod.pod ≡ true = rw same found.passes in
    let answer : o ≡ (if is_free a.live pod.pod then slice_get (placed_in (queues_at pod.pod.number) a.live) 0 else None) = e ∙ rw (h.seats, pod.seat) refl in
    rw pod.number at (by (is_free a.live pod.pod) (placed_in (queues_at pod.pod.number) a.live) refl passes answer)
  where
    some_same : (x y : Pod) → ◌≡◌ {A = Option Pod} (Some x) (Some y) → x ≡ y
    some_same x y e = cc

    by : (free : Bool) (xs : List ℕ) {m : ℕ} → placed_in (queues_at m) a.live ≡ xs → (free && not (is_empty xs)) ≡ true → o ≡ (if free then slice_get xs 0 else None) → RunsNext a.live m o
    by false xs q f g = absurd (cc)
    by true [] q f g = absurd (cc)
    by true (x ∷ xs) q f g = record { r = x; is = g; first = rw q refl }

-- ---- what is kept

pub cands_fit : (live : List Request) (all : List Pod) → length live < 2 ^ 63 → All (λ (k : Cand). k.running < 2 ^ 63) (candidates_in live all)
unfolding candidates_in
cands_fit live all few = each (filter (λ (q : Pod). is_ready_now q.readiness) all)
  where
    each : (ready : List Pod) → All (λ (k : Cand). k.running < 2 ^ 63) (map (candidate_of live) ready)
    each [] k d h = absurd (omega arith)
    each (q ∷ ready) zero d h = let most = length-placed (runs_at q.number) live in omega arith
    each (q ∷ ready) (suc k) d h = each ready k d (omega arith)

pub kept_begun : (s : Spec) (a : Admission) (b : breaker.State) (t u : seats.State) (k l : List Cand) (p : policy.State) (run leave : Touched) (r n : ℕ) (new : List Request) → IsKept s a b t k p run leave
    → IsInOrder (record a { live = new }) → length new ≡ length a.live → Moves r (place.Queued n) (place.Running n false) a.live new → first_of (placed_in (queues_at n) a.live) ≡ Some r
    → u ≡ seats.change n (λ pod. record pod { queued = drop 1 pod.queued; running = pod.running + 1 }) t → requests_at_all u.pods ≡ requests_at_all t.pods → l ≡ with_changed n cands.begun k
    → IsKept s (record a { live = new }) b u l p run leave
kept_begun s a b t u k l p run leave r n new h order len m first e count f =
    let other : (x : ℕ) → (x == n) ≡ false → SameAt x a.live new = λ x d. same_begun r x n a.live new m (eq-sym n x ∙ d) in
    let held : placed_in is_held_place new ≡ placed_in is_held_place a.live = m.same is_held_place refl in
    let held_as : length (placed_in is_held_place new) ≡ length (placed_in is_held_place a.live) = ap length held in
    let sound = h.sound in
    let few = sound.few in
    let assignments = sound.assignments in
    let placed = h.placed in
    let change : seat.Pod → seat.Pod = λ pod. record pod { queued = drop 1 pod.queued; running = pod.running + 1 } in
    record {
      sound = record { order = order; few = omega arith; few_pods = sound.few_pods; turn = sound.turn; assignments = omega arith; arrivals = sound.arrivals };
      breaker = h.breaker ∙ rw (m.same is_through refl, m.same is_assigned_place refl) refl;
      seats = e ∙ ap (λ (x : seats.State). seats.change n change x) h.seats ∙ rw (seats_at n change a.live new a.pods here other) refl;
      placed = omega arith;
      candidates = f ∙ ap (λ (x : List Cand). with_changed n cands.begun x) h.candidates ∙ sym (cands_at n cands.begun a.live new a.pods candidate other);
      policy = h.policy;
      runs = covers_less (can_run a.live) (can_run new) a.pods run (less_begun r n a.live new m) h.runs;
      leaves = covers_less (can_leave a.live) (can_leave new) a.pods leave (λ q d. rw (m.same (is_at q.number) refl) d) h.leaves;
    }
  where
    more : (q : Pod) → q.number ≡ n → length (placed_in (runs_at q.number) new) ≡ length (placed_in (runs_at q.number) a.live) + 1
    more q is =
        let named : (n == q.number) ≡ true = eq-eqb n q.number (sym is) in
        let count : length (placed_in (runs_at q.number) new) + 0 ≡ length (placed_in (runs_at q.number) a.live) + 1 = rw named at (m.counts (runs_at q.number)) in
        omega arith

    here : (q : Pod) → q.number ≡ n → seat_of new q ≡ record (seat_of a.live q) { queued = drop 1 (seat_of a.live q).queued; running = (seat_of a.live q).running + 1 }
    here q is =
        let named : (n == q.number) ≡ true = eq-eqb n q.number (sym is) in
        let count : length (placed_in (queues_at q.number) new) + 1 ≡ length (placed_in (queues_at q.number) a.live) + 0 = rw named at (m.counts (queues_at q.number)) in
        let gone : length (others r (placed_in (queues_at q.number) a.live)) + 1 ≡ length (placed_in (queues_at q.number) a.live) + 0 = rw (m.left (queues_at q.number) refl) at count in
        let less : length (others r (placed_in (queues_at q.number) a.live)) + 1 ≡ length (placed_in (queues_at q.number) a.live) = omega arith in
        let once = first_once r (placed_in (queues_at q.number) a.live) (rw is first) less in
        rw (more q is, m.left (queues_at q.number) refl, once) refl

    candidate : (q : Pod) → q.number ≡ n → candidate_of new q ≡ cands.begun (candidate_of a.live q)
    candidate q is = rw (more q is) refl

pub kept_assigned : (s : Spec) (a : Admission) (b d : breaker.State) (t u : seats.State) (k l : List Cand) (p x : policy.State) (run leave : Touched) (r n : ℕ) (new : List Request) → IsKept s a b t k p run leave
    → IsInOrder (record a { live = new; assignments = a.assignments + 1; robin = x.place }) → length new ≡ length a.live → Moves r place.Held (place.Running n true) a.live new
    → d ≡ record b { running = b.running + 1 } → u ≡ seats.change n (λ pod. record pod { running = pod.running + 1 }) t → requests_at_all u.pods ≡ requests_at_all t.pods + 1 → l ≡ with_changed n cands.begun k
    → x ≡ policy_at s.cc s.slots.seed x.place (a.assignments + 1)
    → IsKept s (record a { live = new; assignments = a.assignments + 1; robin = x.place }) d u l x run leave
kept_assigned s a b d t u k l p x run leave r n new h order len m w e count f g =
    let other : (y : ℕ) → (y == n) ≡ false → SameAt y a.live new = λ y o. same_assigned r y n a.live new m (eq-sym n y ∙ o) in
    let held = m.counts is_held_place in
    let sound = h.sound in
    let few = sound.few in
    let assignments = sound.assignments in
    let placed = h.placed in
    let through : length (placed_in is_through a.live) ≡ length (placed_in is_through new) = omega (arith, m.counts is_through) in
    let assigned : length (placed_in is_assigned_place a.live) + 1 ≡ length (placed_in is_assigned_place new) = omega (arith, m.counts is_assigned_place) in
    let change : seat.Pod → seat.Pod = λ pod. record pod { running = pod.running + 1 } in
    record {
      sound = record { order = order; few = omega arith; few_pods = sound.few_pods; turn = sound.turn; assignments = omega arith; arrivals = sound.arrivals };
      breaker = w ∙ ap (λ (y : breaker.State). record y { running = y.running + 1 }) h.breaker ∙ rw (through, assigned) refl;
      seats = e ∙ ap (λ (y : seats.State). seats.change n change y) h.seats ∙ rw (seats_at n change a.live new a.pods here other) refl;
      placed = omega arith;
      candidates = f ∙ ap (λ (y : List Cand). with_changed n cands.begun y) h.candidates ∙ sym (cands_at n cands.begun a.live new a.pods candidate other);
      policy = g;
      runs = covers_less (can_run a.live) (can_run new) a.pods run (less_assigned r n a.live new m) h.runs;
      leaves = covers_less (can_leave a.live) (can_leave new) a.pods leave (still_there r n a.live new m) h.leaves;
    }
  where
    more : (q : Pod) → q.number ≡ n → length (placed_in (runs_at q.number) new) ≡ length (placed_in (runs_at q.number) a.live) + 1
    more q is =
        let named : (n == q.number) ≡ true = eq-eqb n q.number (sym is) in
        let count : length (placed_in (runs_at q.number) new) + 0 ≡ length (placed_in (runs_at q.number) a.live) + 1 = rw named at (m.counts (runs_at q.number)) in
        omega arith

    here : (q : Pod) → q.number ≡ n → seat_of new q ≡ record (seat_of a.live q) { running = (seat_of a.live q).running + 1 }
    here q is = rw (more q is, m.same (queues_at q.number) refl) refl

    candidate : (q : Pod) → q.number ≡ n → candidate_of new q ≡ cands.begun (candidate_of a.live q)
    candidate q is = rw (more q is) refl
