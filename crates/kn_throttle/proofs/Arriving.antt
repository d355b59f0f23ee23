-- An arrival: the pod in turn, the row that it makes, and what is kept.
use Rattle.std.proofs.Common.{◌≡◌, ℕ, zero, suc, ◌+◌, ◌<◌, ◌≤◌, ◌%◌, ◌^◌, Bool, true, false, not, cond, ◌&&◌, ◌||◌, List, [], ◌∷◌, ◌++◌, length, get_or, map, refl, sym, ap, subst, ◌∙◌, arith, nat_le, append-nil, length-append}
use Rattle.std.specs.Prelude.{None, Some, ◌==◌, slice_index, if◌then◌else◌}
use Rattle.std.specs.List.{filter}
use Rattle.std.proofs.lemmas.Bool.{eq-eqb}
use Rattle.std.proofs.lemmas.Bool.Decides.{nat_tests}
use Rattle.kn_event.specs.declared.entry.Row.TheVariants as row
use Rattle.kn_event.specs.declared.entry.Mode.{Mode}
use Rattle.kn_event.specs.declared.entry.Mode.TheVariants as mode
use Rattle.kn_event.specs.declared.event.Act.TheVariants as act
use Rattle.kn_event.specs.declared.revision.Spec.{Spec}
use Rattle.kn_event.specs.Lists.{contains}
use Rattle.kn_trace.specs.declared.candidate.Cand.{Cand}
use Rattle.kn_trace.specs.Trace.{is_empty}
use Rattle.kn_trace.specs.Events.{live_most}
use Rattle.kn_breaker.specs.Breaker as breaker
use Rattle.kn_seats.specs.Seats as seats
use Rattle.kn_seats.specs.Pods as pods
use Rattle.kn_seats.specs.Pods.{pod_at, requests_at_all}
use Rattle.kn_policy.specs.Policy as policy
use Rattle.kn_record.specs.declared.admission.Place.TheVariants as place
use Rattle.kn_record.specs.declared.admission.Request.{Request}
use Rattle.kn_record.specs.declared.admission.Pod.{Pod}
use Rattle.kn_record.specs.Acting.{admission_row_in, arrival_row_in, row_in}
use Rattle.kn_record.specs.Admission.{Admission, candidate_of, candidates_in, is_assigned_place, is_at, is_draining_now, is_held_place, is_ready_now, is_through, placed_in, pods_in, queues_at, runs_at}
use Rattle.kn_record.specs.Order.{IsInOrder}
use Rattle.kn_record.specs.Views.{is_full_in, pod_numbers}
use Rattle.kn_throttle.specs.declared.touched.Touched.{Touched}
use Rattle.kn_throttle.specs.Touched.{one_more}
use Rattle.kn_throttle.specs.Kept.{IsKept, can_leave, can_run, seat_of}
use Rattle.kn_throttle.proofs.Places.{not_named}
use Rattle.kn_throttle.proofs.Same.{SameAt, at-parts, eq-sym, placed-push, same_can_leave, same_can_run, same_pushed}
use Rattle.kn_throttle.proofs.Parts.{cands_same, covers_less, covers_more, pod_of, seats_at, seats_same}

-- ---- the pod in turn

pub contains-index : (i d : ℕ) (xs : List ℕ) → i < length xs → contains (get_or xs i d) xs ≡ true
contains-index i d [] h = absurd (omega arith)
contains-index zero d (x ∷ xs) h = rw (eq-eqb x x refl) refl
contains-index (suc i) d (x ∷ xs) h = more (x == get_or xs i d) _ (contains-index i d xs (omega arith))
  where
    more : (m b : Bool) → b ≡ true → (m || b) ≡ true
    more true b h = refl
    more false b h = h

pub cands-pods : (live : List Request) (all : List Pod) → map (λ (k : Cand). k.pod) (candidates_in live all) ≡ pods_in is_ready_now all
unfolding candidates_in
cands-pods live all = images (filter (λ (q : Pod). is_ready_now q.readiness) all)
  where
    images : (ready : List Pod) → map (λ (k : Cand). k.pod) (map (candidate_of live) ready) ≡ map (λ (q : Pod). q.number) ready
    images [] = refl
    images (q ∷ ready) = ap (λ (l : List ℕ). q.number ∷ l) (images ready)

pub length-pods : (k : List Cand) → length (map (λ (k : Cand). k.pod) k) ≡ length k
length-pods [] = refl
length-pods (x ∷ k) = let rest = length-pods k in omega arith

pub get_or-pods : (k : List Cand) (i d : ℕ) (e : Cand) → i < length k → get_or (map (λ (k : Cand). k.pod) k) i d ≡ (get_or k i e).pod
get_or-pods [] i d e h = absurd (omega arith)
get_or-pods (x ∷ k) zero d e h = refl
get_or-pods (x ∷ k) (suc i) d e h = get_or-pods k i d e (omega arith)

-- a Ready pod is there
pub ready_there : (p : ℕ) (all : List Pod) → contains p (pods_in is_ready_now all) ≡ true → contains p (pod_numbers all) ≡ true
ready_there p [] h = absurd (cc)
ready_there p (q ∷ all) h = by (is_ready_now q.readiness) h (λ e. ready_there p all e)
  where
    more : (m b : Bool) → b ≡ true → (m || b) ≡ true
    more true b h = refl
    more false b h = h

    either : (m b : Bool) → (b ≡ true → contains p (pod_numbers all) ≡ true) → (m || b) ≡ true → (m || contains p (pod_numbers all)) ≡ true
    either true b rest h = refl
    either false b rest h = rest h

    by : (b : Bool) → contains p (map (λ (q : Pod). q.number) (cond b (q ∷ filter (λ (q : Pod). is_ready_now q.readiness) all) (filter (λ (q : Pod). is_ready_now q.readiness) all))) ≡ true
        → (contains p (pods_in is_ready_now all) ≡ true → contains p (pod_numbers all) ≡ true) → ((q.number == p) || contains p (pod_numbers all)) ≡ true
    by true e rest = either (q.number == p) (contains p (pods_in is_ready_now all)) rest e
    by false e rest = more (q.number == p) _ (rest e)

above_zero : (n : ℕ) → false ≡ (n == 0) → 0 < n
above_zero zero h = absurd (cc)
above_zero (suc n) h = omega arith

-- where the candidate in turn stands, its pod is the one in turn
pub record IsInTurn (a : Admission) (p : ℕ) : Type 0 where
  pub ready : contains p (pods_in is_ready_now a.pods) ≡ true
  pub here : slice_index (pods_in is_ready_now a.pods) (a.turn % length (pods_in is_ready_now a.pods)) ≡ p
  pub some : 0 < length (pods_in is_ready_now a.pods)
  pub there : contains p (pod_numbers a.pods) ≡ true

pub in_turn : (s : Spec) (a : Admission) (b : breaker.State) (t : seats.State) (k : List Cand) (p : policy.State) (run leave : Touched) (l : List Cand) (d : Cand) → IsKept s a b t k p run leave → l ≡ k → false ≡ (length l == 0) → IsInTurn a (get_or l (a.turn % length l) d).pod
in_turn s a b t k p run leave l d h e some =
    let pods_are : map (λ (k : Cand). k.pod) l ≡ pods_in is_ready_now a.pods = ap (λ (l : List Cand). map (λ (k : Cand). k.pod) l) (e ∙ h.candidates) ∙ cands-pods a.live a.pods in
    let long = length-pods l in
    let positive : 0 < length l = above_zero (length l) some in
    let inside : a.turn % length l < length l = omega arith in
    let here : get_or (map (λ (k : Cand). k.pod) l) (a.turn % length l) 0 ≡ (get_or l (a.turn % length l) d).pod = get_or-pods l (a.turn % length l) 0 d inside in
    let ready : contains (get_or l (a.turn % length l) d).pod (pods_in is_ready_now a.pods) ≡ true =
    rw (← pods_are) (subst (λ (p : ℕ). contains p (map (λ (k : Cand). k.pod) l) ≡ true) here (contains-index (a.turn % length l) 0 (map (λ (k : Cand). k.pod) l) (omega arith))) in
    record {
      ready = ready;
      here = rw (← pods_are, long) here;
      some = rw (← pods_are) (omega arith);
      there = ready_there _ a.pods ready;
    }

pub none_ready : (s : Spec) (a : Admission) (b : breaker.State) (t : seats.State) (k : List Cand) (p : policy.State) (run leave : Touched) (l : List Cand) → IsKept s a b t k p run leave → l ≡ k → true ≡ (length l == 0) → pods_in is_ready_now a.pods ≡ []
none_ready s a b t k p run leave [] h e none = sym (ap (λ (l : List Cand). map (λ (k : Cand). k.pod) l) (e ∙ h.candidates) ∙ cands-pods a.live a.pods)
none_ready s a b t k p run leave (x ∷ l) h e none = absurd (none_less (length (x ∷ l)) none (omega arith))
  where
    none_less : (n : ℕ) → true ≡ (n == 0) → 0 < n → ⊥
    none_less zero e less = omega arith
    none_less (suc n) e less = let no : true ≡ false = e ∙ not_named (suc n) 0 (λ x. absurd (omega arith)) in cc

pub not_full : (r b : Bool) → r ≡ not b → r ≡ true → b ≡ false
not_full r true e f = absurd (cc)
not_full r false e f = refl

pub is_refused : (r b : Bool) → r ≡ not b → r ≡ false → b ≡ true
is_refused r true e f = refl
is_refused r false e f = absurd (cc)

pub refused-row : (s : Spec) (a : Admission) (b : breaker.State) (t : seats.State) (k : List Cand) (p : policy.State) (run leave : Touched) (tag : ℕ) → IsKept s a b t k p run leave → b.in_flight ≡ b.depth + b.max → admission_row_in s a tag ≡ row.QueueFull a.arrivals None
refused-row s a b t k p run leave tag h full =
    let here : length (placed_in is_through a.live) ≡ s.slots.depth + s.slots.max = rw h.breaker at full in
    let test : (length (placed_in is_through a.live) == s.slots.depth + s.slots.max) ≡ true = eq-eqb _ _ here in
    rw test refl

pub admitted-row : (s : Spec) (a : Admission) (b : breaker.State) (t : seats.State) (k : List Cand) (p : policy.State) (run leave : Touched) (tag : ℕ) → IsKept s a b t k p run leave → (b.in_flight ≡ b.depth + b.max → ⊥) → admission_row_in s a tag ≡ row.Admit a.arrivals tag
admitted-row s a b t k p run leave tag h room =
    let here : (length (placed_in is_through a.live) ≡ s.slots.depth + s.slots.max) → ⊥ = rw h.breaker at room in
    let test : (length (placed_in is_through a.live) == s.slots.depth + s.slots.max) ≡ false = not_named _ _ here in
    rw test refl

-- the seats say whether the pod is full
pub full-seat : (s : Spec) (a : Admission) (b : breaker.State) (t : seats.State) (k : List Cand) (p : policy.State) (run leave : Touched) (n : ℕ) → IsKept s a b t k p run leave → IsInTurn a n → pods.is_full (pod_at n t.pods) ≡ is_full_in a n
full-seat s a b t k p run leave n h turn =
    let pod = pod_of a.live n a.pods turn.there in
    rw (h.seats, pod.seat, pod.found, at-parts pod.pod.number a.live) refl

-- ---- the row

pub overload-row : (s : Spec) (m : Mode) (a : Admission) (tag : ℕ) → live_most ≤ length a.live → row_in s m a (act.Arrive tag) ≡ Some (row.Overload a.arrivals)
unfolding row_in
overload-row s m a tag many = let full : nat_le live_most (length a.live) ≡ true = grind (arith, nat_tests) in rw full refl

pub direct-row : (s : Spec) (a : Admission) (tag p : ℕ) (full : Bool) → length a.live < live_most → IsInTurn a p → is_full_in a p ≡ full
    → row_in s mode.Serve a (act.Arrive tag) ≡ Some (if full then row.QueueFull a.arrivals (Some p) else row.Direct a.arrivals p)
unfolding row_in
direct-row s a tag p full few turn f = rw past (by (pods_in is_ready_now a.pods) refl)
  where
    past : nat_le live_most (length a.live) ≡ false
    past = grind (arith, nat_tests)

    by : (ready : List ℕ) → pods_in is_ready_now a.pods ≡ ready → Some (arrival_row_in mode.Serve s a ready tag) ≡ Some (if full then row.QueueFull a.arrivals (Some p) else row.Direct a.arrivals p)
    by [] e = absurd (let some = rw e at turn.some in omega arith)
    by (q ∷ ready) e = let here = rw e at turn.here in rw (here, f) refl

pub through-row : (s : Spec) (m : Mode) (a : Admission) (tag : ℕ) → length a.live < live_most → (m ≡ mode.Serve → pods_in is_ready_now a.pods ≡ []) → row_in s m a (act.Arrive tag) ≡ Some (admission_row_in s a tag)
unfolding row_in
through-row s m a tag few none = rw past (by m (pods_in is_ready_now a.pods) none)
  where
    past : nat_le live_most (length a.live) ≡ false
    past = grind (arith, nat_tests)

    by : (m : Mode) (ready : List ℕ) → (m ≡ mode.Serve → ready ≡ []) → Some (arrival_row_in m s a ready tag) ≡ Some (admission_row_in s a tag)
    by mode.Serve [] none = refl
    by mode.Serve (p ∷ ready) none = absurd (let no = none refl in cc)
    by mode.Proxy ready none = refl

-- ---- what is kept

pub kept_directed : (s : Spec) (a : Admission) (b : breaker.State) (t u : seats.State) (k : List Cand) (p : policy.State) (run leave : Touched) (n time : ℕ) → IsKept s a b t k p run leave
    → a.arrivals < 2 ^ 54 → length a.live < live_most → contains n (pod_numbers a.pods) ≡ true
    → IsInOrder (record a { arrivals = a.arrivals + 1; live = a.live ++ record { number = a.arrivals; time = time; place = place.Queued n } ∷ []; turn = a.turn + 1 })
    → u ≡ seats.change n (λ pod. record pod { queued = pod.queued ++ a.arrivals ∷ [] }) t → requests_at_all u.pods ≡ requests_at_all t.pods + 1
    → IsKept s (record a { arrivals = a.arrivals + 1; live = a.live ++ record { number = a.arrivals; time = time; place = place.Queued n } ∷ []; turn = a.turn + 1 }) b u k p (one_more n run) leave
kept_directed s a b t u k p run leave n time h few room there order e count =
    let q : Request = record { number = a.arrivals; time = time; place = place.Queued n } in
    let new = a.live ++ q ∷ [] in
    let more = length-append a.live (q ∷ []) in
    let sound = h.sound in
    let placed = h.placed in
    let turn = sound.turn in
    let assignments = sound.assignments in
    let held : placed_in is_held_place new ≡ placed_in is_held_place a.live = placed-push is_held_place a.live q ∙ append-nil _ in
    let held_as : length (placed_in is_held_place new) ≡ length (placed_in is_held_place a.live) = ap length held in
    let other : (m : ℕ) → (m == n) ≡ false → SameAt m a.live new = λ m f. same_pushed m a.live q (eq-sym n m ∙ f) in
    let change : pods.Pod → pods.Pod = λ pod. record pod { queued = pod.queued ++ a.arrivals ∷ [] } in
    record {
      sound = record { order = order; few = omega arith; few_pods = sound.few_pods; turn = omega arith; assignments = omega arith; arrivals = omega arith };
      breaker = h.breaker ∙ rw (placed-push is_through a.live q, placed-push is_assigned_place a.live q, append-nil (placed_in is_through a.live), append-nil (placed_in is_assigned_place a.live)) refl;
      seats = e ∙ ap (λ (x : seats.State). seats.change n change x) h.seats ∙ rw (seats_at n change a.live new a.pods (here q refl) other) refl;
      placed = omega arith;
      candidates = h.candidates ∙ sym (cands_same a.live new a.pods (λ m. placed-push (runs_at m) a.live q ∙ append-nil _));
      policy = h.policy;
      runs = covers_more n (can_run a.live) (can_run new) a.pods run there (λ x f. same_can_run a.live new x (other x.number (eq-sym x.number n ∙ f))) h.runs;
      leaves = covers_less (can_leave a.live) (can_leave new) a.pods leave (λ x f. rw (placed-push (is_at x.number) a.live q) (fewer (is_draining_now x.readiness) (placed_in (is_at x.number) a.live) _ f)) h.leaves;
    }
  where
    here : (q : Request) → q.place ≡ place.Queued n → (x : Pod) → x.number ≡ n → seat_of (a.live ++ q ∷ []) x ≡ record (seat_of a.live x) { queued = (seat_of a.live x).queued ++ q.number ∷ [] }
    here q at_n x same =
        let passes : queues_at x.number q.place ≡ true = ap (queues_at x.number) at_n ∙ eq-eqb n x.number (sym same) in
        let not_runs : runs_at x.number q.place ≡ false = ap (runs_at x.number) at_n in
        rw (placed-push (runs_at x.number) a.live q, placed-push (queues_at x.number) a.live q, passes, not_runs, append-nil (placed_in (runs_at x.number) a.live)) refl

    fewer : (d : Bool) (xs ys : List ℕ) → (d && is_empty xs) ≡ false → (d && is_empty (xs ++ ys)) ≡ false
    fewer false xs ys f = refl
    fewer true [] ys f = absurd (cc)
    fewer true (x ∷ xs) ys f = refl

pub kept_admitted : (s : Spec) (a : Admission) (b d : breaker.State) (t : seats.State) (k : List Cand) (p : policy.State) (run leave : Touched) (time : ℕ) → IsKept s a b t k p run leave
    → a.arrivals < 2 ^ 54 → length a.live < live_most
    → IsInOrder (record a { arrivals = a.arrivals + 1; live = a.live ++ record { number = a.arrivals; time = time; place = place.Held } ∷ [] })
    → d ≡ record b { in_flight = b.in_flight + 1 }
    → IsKept s (record a { arrivals = a.arrivals + 1; live = a.live ++ record { number = a.arrivals; time = time; place = place.Held } ∷ [] }) d t k p run leave
kept_admitted s a b d t k p run leave time h few room order e =
    let q : Request = record { number = a.arrivals; time = time; place = place.Held } in
    let new = a.live ++ q ∷ [] in
    let more = length-append a.live (q ∷ []) in
    let sound = h.sound in
    let placed = h.placed in
    let turn = sound.turn in
    let assignments = sound.assignments in
    let one_more_in = length-append (placed_in is_through a.live) (a.arrivals ∷ []) in
    let through : length (placed_in is_through a.live) + 1 ≡ length (placed_in is_through new) = rw (placed-push is_through a.live q) (omega arith) in
    let one_more_held = length-append (placed_in is_held_place a.live) (a.arrivals ∷ []) in
    let held : length (placed_in is_held_place new) ≡ length (placed_in is_held_place a.live) + 1 = rw (placed-push is_held_place a.live q) (omega arith) in
    let same : (m : ℕ) → SameAt m a.live new = λ m. same_pushed m a.live q refl in
    record {
      sound = record { order = order; few = omega arith; few_pods = sound.few_pods; turn = omega arith; assignments = omega arith; arrivals = omega arith };
      breaker = e ∙ ap (λ (x : breaker.State). record x { in_flight = x.in_flight + 1 }) h.breaker ∙ rw (through, placed-push is_assigned_place a.live q, append-nil (placed_in is_assigned_place a.live)) refl;
      seats = h.seats ∙ rw (seats_same a.live new a.pods same) refl;
      placed = omega arith;
      candidates = h.candidates ∙ sym (cands_same a.live new a.pods (λ m. let here = same m in here.runs));
      policy = h.policy;
      runs = covers_less (can_run a.live) (can_run new) a.pods run (λ x f. same_can_run a.live new x (same x.number) ∙ f) h.runs;
      leaves = covers_less (can_leave a.live) (can_leave new) a.pods leave (λ x f. same_can_leave a.live new x (same x.number) ∙ f) h.leaves;
    }
