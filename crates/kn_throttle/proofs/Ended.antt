-- What is kept when a request ends.
use Rattle.std.proofs.Common.{◌≡◌, ℕ, ◌+◌, ◌-◌, ◌<◌, ◌≤◌, Bool, true, false, not, ◌&&◌, List, [], ◌∷◌, length, refl, sym, ap, ◌∙◌, arith}
use Rattle.std.specs.Prelude.{◌==◌, Some, find, if◌then◌else◌}
use Rattle.std.specs.List.{All}
use Rattle.std.proofs.lemmas.Bool.{eq-eqb}
use Rattle.std.proofs.lemmas.List.Elements.{All-head, All-tail}
use Rattle.kn_event.specs.declared.revision.Spec.{Spec}
use Rattle.kn_event.specs.Lists.{contains}
use Rattle.kn_trace.specs.declared.candidate.Cand.{Cand}
use Rattle.kn_trace.specs.Trace.{is_empty}
use Rattle.kn_breaker.specs.Breaker as breaker
use Rattle.kn_seats.specs.Seats as seats
use Rattle.kn_seats.specs.Pods.{has_pod, pod_at, requests_at_all, without_request, StandsOnce}
use Rattle.kn_seats.specs.Pods as seat
use Rattle.kn_policy.specs.Policy as policy
use Rattle.kn_record.specs.declared.admission.Place.{Place}
use Rattle.kn_record.specs.declared.admission.Place.TheVariants as place
use Rattle.kn_record.specs.declared.admission.Request.{Request}
use Rattle.kn_record.specs.declared.admission.Pod.{Pod}
use Rattle.kn_record.specs.Admission.{Admission, candidate_of, is_assigned_place, is_held_place, is_through, placed_in, queues_at, runs_at}
use Rattle.kn_record.specs.Order.{IsAmong, IsInOrder}
use Rattle.kn_record.specs.Views.{is_free, pod_numbers}
use Rattle.kn_table.specs.Moves.{Leaves}
use Rattle.kn_throttle.specs.declared.touched.Touched.{Touched}
use Rattle.kn_throttle.specs.Touched.{one_more}
use Rattle.kn_throttle.specs.Breaker.{released}
use Rattle.kn_throttle.specs.Candidates.{ended, with_changed}
use Rattle.kn_throttle.specs.Kept.{AreKeptAfter, AreKeptBefore, IsKept, IsSound, breaker_in, can_leave, can_run, seat_of}
use Rattle.kn_throttle.proofs.Once.{others, without_once}
use Rattle.kn_throttle.proofs.Same.{SameAt, eq-sym, same_can_leave, same_can_run, same_ended, through-parts}
use Rattle.kn_throttle.proofs.Parts.{cands_at, cands_same, covers_less, covers_more, pod_of, seats-has, seats_at, seats_same}

-- what is found has what all have
pub found_has : {X : Type 0} (P : X → Type 0) (test : X → Bool) (xs : List X) (x : X) → find test xs ≡ Some x → All P xs → P x
found_has P test [] x f h = absurd (cc)
found_has P test (y ∷ xs) x f h = by (test y) f (λ e. found_has P test xs x e (All-tail P y xs h))
  where
    by : (b : Bool) → (if b then Some y else find test xs) ≡ Some x → (find test xs ≡ Some x → P x) → P x
    by true e rest = let same : y ≡ x = cc in rw (← same) (All-head P y xs h)
    by false e rest = rest e

pub home_at : (pods : List ℕ) (x y : Place) → IsAmong pods x → x ≡ y → IsAmong pods y
home_at pods x y h e = rw e at h

-- a live request's pod is there
pub home_of : (a : Admission) (r : ℕ) (q : Request) (x : Place) → IsInOrder a → find (λ (q : Request). q.number == r) a.live ≡ Some q → q.place ≡ x → IsAmong (pod_numbers a.pods) x
home_of a r q x order f e = home_at (pod_numbers a.pods) q.place x (found_has (λ (q : Request). IsAmong (pod_numbers a.pods) q.place) (λ (q : Request). q.number == r) a.live q f order.homes) e

pub leaves_from : (r : ℕ) (x y : Place) (old new : List Request) → Leaves r x old new → x ≡ y → Leaves r y old new
leaves_from r x y old new l e = rw e at l

-- a live request has left its place: what is asked for to free it, and what is kept then
module _ (s : Spec) (a : Admission) (b : breaker.State) (t : seats.State) (k : List Cand) (p : policy.State) (run leave : Touched) (r : ℕ) (q : Request) (new : List Request) (h : IsKept s a b t k p run leave)
    (order : IsInOrder (record a { live = new })) (less : length new + 1 ≡ length a.live) (l : Leaves r q.place a.live new) (f : find (λ (q : Request). q.number == r) a.live ≡ Some q) where
  pub before_free : AreKeptBefore r q.place b t k run leave
  before_free = record {
    spec = s;
    admission = a;
    policy = p;
    new = new;
    kept = h;
    left = record { order = order; len = less; leaves = l; home = home_of a r q q.place h.sound.order f refl };
  }

  pub after_free : (d : breaker.State) (u : seats.State) (m : List Cand) (runs leaves : Touched) → ((z : AreKeptBefore r q.place b t k run leave) → AreKeptAfter z d u m runs leaves)
      → IsKept s (record a { live = new }) d u m p runs leaves
  unfolding before_free
  after_free d u m runs leaves frees = frees before_free

-- ---- the breaker

pub breaker_left : (s : Spec) (r : ℕ) (old new : List Request) (all : List Pod) → Leaves r place.Held old new
    → record (breaker_in s old all) { in_flight = (breaker_in s old all).in_flight - 1 } ≡ breaker_in s new all
breaker_left s r old new all l =
    let through : length (placed_in is_through old) - 1 ≡ length (placed_in is_through new) = omega (arith, l.counts is_through) in
    let assigned : length (placed_in is_assigned_place old) ≡ length (placed_in is_assigned_place new) = omega (arith, l.counts is_assigned_place) in
    rw (through, assigned) refl

pub breaker_released : (s : Spec) (r p : ℕ) (old new : List Request) (all : List Pod) → Leaves r (place.Running p true) old new
    → record (breaker_in s old all) { in_flight = (breaker_in s old all).in_flight - 1; running = (breaker_in s old all).running - 1 } ≡ breaker_in s new all
breaker_released s r p old new all l =
    let through : length (placed_in is_through old) - 1 ≡ length (placed_in is_through new) = omega (arith, l.counts is_through) in
    let assigned : length (placed_in is_assigned_place old) - 1 ≡ length (placed_in is_assigned_place new) = omega (arith, l.counts is_assigned_place) in
    rw (through, assigned) refl

-- one that didn't come through the activator
pub breaker_same : (s : Spec) (r : ℕ) (x : Place) (old new : List Request) (all : List Pod) → is_through x ≡ false → is_assigned_place x ≡ false → Leaves r x old new → breaker_in s old all ≡ breaker_in s new all
breaker_same s r x old new all t a l = rw (l.same is_through t, l.same is_assigned_place a) refl

pub breaker_ended : (s : Spec) (b d : breaker.State) (r p : ℕ) (x : Bool) (old new : List Request) (all : List Pod) → b ≡ breaker_in s old all → d ≡ released x b → Leaves r (place.Running p x) old new → d ≡ breaker_in s new all
breaker_ended s b d r p true old new all e g l = g ∙ ap (λ (y : breaker.State). released true y) e ∙ breaker_released s r p old new all l
breaker_ended s b d r p false old new all e g l = g ∙ e ∙ breaker_same s r (place.Running p false) old new all refl refl l

-- ---- what is left sound

ended_sound : (a : Admission) (new : List Request) → IsSound a → IsInOrder (record a { live = new }) → length new + 1 ≡ length a.live → length (placed_in is_held_place new) ≤ length (placed_in is_held_place a.live) → IsSound (record a { live = new })
ended_sound a new k order less held =
    let few = k.few in
    let assignments = k.assignments in
    record { order = order; few = omega arith; few_pods = k.few_pods; turn = k.turn; assignments = omega arith; arrivals = k.arrivals }

-- ---- a held one

pub kept_left : (s : Spec) (a : Admission) (b : breaker.State) (t : seats.State) (k : List Cand) (p : policy.State) (run leave : Touched) (r : ℕ) (new : List Request) → IsKept s a b t k p run leave
    → IsInOrder (record a { live = new }) → length new + 1 ≡ length a.live → Leaves r place.Held a.live new
    → IsKept s (record a { live = new }) (record b { in_flight = b.in_flight - 1 }) t k p run leave
kept_left s a b t k p run leave r new h order less l =
    let same : (n : ℕ) → SameAt n a.live new = λ n. same_ended r n place.Held a.live new l refl in
    let held = l.counts is_held_place in
    let placed = h.placed in
    record {
      sound = ended_sound a new h.sound order less (omega arith);
      breaker = ap (λ (x : breaker.State). record x { in_flight = x.in_flight - 1 }) h.breaker ∙ breaker_left s r a.live new a.pods l;
      seats = h.seats ∙ rw (seats_same a.live new a.pods same) refl;
      placed = omega arith;
      candidates = h.candidates ∙ sym (cands_same a.live new a.pods (λ n. let here = same n in here.runs));
      policy = h.policy;
      runs = covers_less (can_run a.live) (can_run new) a.pods run (λ q e. same_can_run a.live new q (same q.number) ∙ e) h.runs;
      leaves = covers_less (can_leave a.live) (can_leave new) a.pods leave (λ q e. same_can_leave a.live new q (same q.number) ∙ e) h.leaves;
    }

-- ---- a queued one

queue_left : (r p : ℕ) (old new : List Request) → Leaves r (place.Queued p) old new → (q : Pod) → q.number ≡ p
    → seat_of new q ≡ record (seat_of old q) { queued = without_request r (seat_of old q).queued }
queue_left r p old new l q n =
    let here : (p == q.number) ≡ true = eq-eqb p q.number (sym n) in
    let count : length (placed_in (queues_at q.number) new) + 1 ≡ length (placed_in (queues_at q.number) old) = rw here at (l.counts (queues_at q.number)) in
    let once = without_once r (placed_in (queues_at q.number) old) (rw (l.left (queues_at q.number)) at count) in
    rw (l.same (runs_at q.number) refl, l.left (queues_at q.number), once) refl

pub kept_unqueued : (s : Spec) (a : Admission) (b : breaker.State) (t u : seats.State) (k : List Cand) (p : policy.State) (run leave : Touched) (r n : ℕ) (new : List Request) → IsKept s a b t k p run leave
    → IsInOrder (record a { live = new }) → length new + 1 ≡ length a.live → Leaves r (place.Queued n) a.live new → contains n (pod_numbers a.pods) ≡ true
    → u ≡ seats.change n (λ pod. record pod { queued = without_request r pod.queued }) t → requests_at_all u.pods + 1 ≡ requests_at_all t.pods
    → IsKept s (record a { live = new }) b u k p run (one_more n leave)
kept_unqueued s a b t u k p run leave r n new h order less l there e count =
    let same : (m : ℕ) → (n == m) ≡ false → SameAt m a.live new = λ m f. same_ended r m (place.Queued n) a.live new l f in
    let other : (m : ℕ) → (m == n) ≡ false → SameAt m a.live new = λ m f. same m (eq-sym n m ∙ f) in
    let held = l.counts is_held_place in
    let placed = h.placed in
    let change : seat.Pod → seat.Pod = λ pod. record pod { queued = without_request r pod.queued } in
    record {
      sound = ended_sound a new h.sound order less (omega arith);
      breaker = h.breaker ∙ breaker_same s r (place.Queued n) a.live new a.pods refl refl l;
      seats = e ∙ ap (λ (x : seats.State). seats.change n change x) h.seats ∙ rw (seats_at n change a.live new a.pods (queue_left r n a.live new l) other) refl;
      placed = omega arith;
      candidates = h.candidates ∙ sym (cands_same a.live new a.pods (λ m. l.same (runs_at m) refl));
      policy = h.policy;
      runs = covers_less (can_run a.live) (can_run new) a.pods run (λ q f. fewer q f) h.runs;
      leaves = covers_more n (can_leave a.live) (can_leave new) a.pods leave there (λ q f. same_can_leave a.live new q (same q.number f)) h.leaves;
    }
  where
    fewer : (q : Pod) → can_run a.live q ≡ false → can_run new q ≡ false
    fewer q f = rw (l.same (runs_at q.number) refl, l.left (queues_at q.number)) (by (is_free a.live q) (placed_in (queues_at q.number) a.live) f)
      where
        by : (free : Bool) (xs : List ℕ) → (free && not (is_empty xs)) ≡ false → (free && not (is_empty (others r xs))) ≡ false
        by false xs f = refl
        by true [] f = refl
        by true (x ∷ xs) f = absurd (cc)

-- ---- a running one

seat_left : (r p : ℕ) (x : Bool) (old new : List Request) → Leaves r (place.Running p x) old new → (q : Pod) → q.number ≡ p
    → seat_of new q ≡ record (seat_of old q) { running = (seat_of old q).running - 1 }
seat_left r p x old new l q n =
    let here : (p == q.number) ≡ true = eq-eqb p q.number (sym n) in
    let count : length (placed_in (runs_at q.number) new) + 1 ≡ length (placed_in (runs_at q.number) old) = rw here at (l.counts (runs_at q.number)) in
    let less : length (placed_in (runs_at q.number) new) ≡ length (placed_in (runs_at q.number) old) - 1 = omega arith in
    rw (less, l.same (queues_at q.number) refl) refl

candidate_left : (r p : ℕ) (x : Bool) (old new : List Request) → Leaves r (place.Running p x) old new → (q : Pod) → q.number ≡ p → candidate_of new q ≡ ended (candidate_of old q)
candidate_left r p x old new l q n =
    let here : (p == q.number) ≡ true = eq-eqb p q.number (sym n) in
    let count : length (placed_in (runs_at q.number) new) + 1 ≡ length (placed_in (runs_at q.number) old) = rw here at (l.counts (runs_at q.number)) in
    let less : length (placed_in (runs_at q.number) new) ≡ length (placed_in (runs_at q.number) old) - 1 = omega arith in
    rw less refl

pub kept_given_back : (s : Spec) (a : Admission) (b d : breaker.State) (t u : seats.State) (k : List Cand) (p : policy.State) (run leave : Touched) (r n : ℕ) (x : Bool) (new : List Request) → IsKept s a b t k p run leave
    → IsInOrder (record a { live = new }) → length new + 1 ≡ length a.live → Leaves r (place.Running n x) a.live new → contains n (pod_numbers a.pods) ≡ true
    → d ≡ released x b → u ≡ seats.change n (λ pod. record pod { running = pod.running - 1 }) t → requests_at_all u.pods + 1 ≡ requests_at_all t.pods
    → IsKept s (record a { live = new }) d u (with_changed n ended k) p (one_more n run) (one_more n leave)
kept_given_back s a b d t u k p run leave r n x new h order less l there freed e count =
    let same : (m : ℕ) → (n == m) ≡ false → SameAt m a.live new = λ m f. same_ended r m (place.Running n x) a.live new l f in
    let other : (m : ℕ) → (m == n) ≡ false → SameAt m a.live new = λ m f. same m (eq-sym n m ∙ f) in
    let held = l.counts is_held_place in
    let placed = h.placed in
    let change : seat.Pod → seat.Pod = λ pod. record pod { running = pod.running - 1 } in
    record {
      sound = ended_sound a new h.sound order less (omega arith);
      breaker = breaker_ended s b d r n x a.live new a.pods h.breaker freed l;
      seats = e ∙ ap (λ (y : seats.State). seats.change n change y) h.seats ∙ rw (seats_at n change a.live new a.pods (seat_left r n x a.live new l) other) refl;
      placed = omega arith;
      candidates = ap (λ (y : List Cand). with_changed n ended y) h.candidates ∙ sym (cands_at n ended a.live new a.pods (candidate_left r n x a.live new l) other);
      policy = h.policy;
      runs = covers_more n (can_run a.live) (can_run new) a.pods run there (λ q f. same_can_run a.live new q (same q.number f)) h.runs;
      leaves = covers_more n (can_leave a.live) (can_leave new) a.pods leave there (λ q f. same_can_leave a.live new q (same q.number f)) h.leaves;
    }

-- ---- what the parts ask for

pub left_running : (s : Spec) (a : Admission) (b : breaker.State) (t : seats.State) (k : List Cand) (p : policy.State) (run leave : Touched) (r : ℕ) (new : List Request) → IsKept s a b t k p run leave → Leaves r place.Held a.live new → b.running < b.in_flight
left_running s a b t k p run leave r new h l =
    let held = l.counts is_held_place in
    let parts = through-parts a.live in
    rw h.breaker (omega arith)

pub assigned_runs : (s : Spec) (a : Admission) (b : breaker.State) (t : seats.State) (k : List Cand) (p : policy.State) (run leave : Touched) (r n : ℕ) (x : Bool) (new : List Request) → IsKept s a b t k p run leave → Leaves r (place.Running n x) a.live new → x ≡ true → 0 < b.running
assigned_runs s a b t k p run leave r n true new h l e = rw h.breaker (omega (arith, l.counts is_assigned_place))
assigned_runs s a b t k p run leave r n false new h l e = absurd (cc)

pub pod_there : (s : Spec) (a : Admission) (b : breaker.State) (t : seats.State) (k : List Cand) (p : policy.State) (run leave : Touched) (n : ℕ) → IsKept s a b t k p run leave → contains n (pod_numbers a.pods) ≡ true → has_pod n t.pods ≡ true
pod_there s a b t k p run leave n h there = rw (h.seats, seats-has a.live n a.pods) there

pub queued_once : (s : Spec) (a : Admission) (b : breaker.State) (t : seats.State) (k : List Cand) (p : policy.State) (run leave : Touched) (r n : ℕ) (new : List Request) → IsKept s a b t k p run leave → contains n (pod_numbers a.pods) ≡ true → Leaves r (place.Queued n) a.live new → StandsOnce r (pod_at n t.pods).queued
queued_once s a b t k p run leave r n new h there l =
    let pod = pod_of a.live n a.pods there in
    let here : (n == pod.pod.number) ≡ true = eq-eqb n pod.pod.number (sym pod.number) in
    let count : length (placed_in (queues_at pod.pod.number) new) + 1 ≡ length (placed_in (queues_at pod.pod.number) a.live) = rw here at (l.counts (queues_at pod.pod.number)) in
    rw (h.seats, pod.seat) (rw (l.left (queues_at pod.pod.number)) at count)

pub runs_there : (s : Spec) (a : Admission) (b : breaker.State) (t : seats.State) (k : List Cand) (p : policy.State) (run leave : Touched) (r n : ℕ) (x : Bool) (new : List Request) → IsKept s a b t k p run leave → contains n (pod_numbers a.pods) ≡ true → Leaves r (place.Running n x) a.live new → 0 < (pod_at n t.pods).running
runs_there s a b t k p run leave r n x new h there l =
    let pod = pod_of a.live n a.pods there in
    let here : (n == pod.pod.number) ≡ true = eq-eqb n pod.pod.number (sym pod.number) in
    let count : length (placed_in (runs_at pod.pod.number) new) + 1 ≡ length (placed_in (runs_at pod.pod.number) a.live) = rw here at (l.counts (runs_at pod.pod.number)) in
    rw (h.seats, pod.seat) (omega arith)
