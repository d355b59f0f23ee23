-- What is kept when a pod comes, changes or goes.
use Rattle.std.proofs.Common.{◌≡◌, ℕ, ◌+◌, Bool, true, false, not, cond, ◌||◌, List, [], ◌∷◌, ◌++◌, length, map, min, refl, sym, ap, ◌∙◌, arith}
use Rattle.std.specs.Prelude.{◌==◌, if◌then◌else◌}
use Rattle.std.specs.List.{All, filter, sum_by}
use Rattle.std.proofs.lemmas.Bool.{eqb-true, eq-eqb}
use Rattle.std.proofs.lemmas.List.Elements.{All-cons, All-head, All-map, All-nil, All-push, All-tail, All-weaker}
use Rattle.std.proofs.lemmas.List.Sums.{sum_by-cons}
use Rattle.kn_event.specs.declared.revision.Spec.{Spec}
use Rattle.kn_event.specs.Lists.{contains}
use Rattle.kn_trace.specs.declared.candidate.Cand.{Cand}
use Rattle.kn_trace.specs.Capacity.{seats_of}
use Rattle.kn_breaker.specs.Breaker as breaker
use Rattle.kn_seats.specs.Seats as seats
use Rattle.kn_seats.specs.Pods.{requests_at_all, with_pod_changed}
use Rattle.kn_seats.specs.Pods as seat
use Rattle.kn_policy.specs.Policy as policy
use Rattle.kn_record.specs.declared.admission.Readiness.{Readiness}
use Rattle.kn_record.specs.declared.admission.Readiness.TheVariants as readiness
use Rattle.kn_record.specs.declared.admission.Request.{Request}
use Rattle.kn_record.specs.declared.admission.Pod.{Pod}
use Rattle.kn_record.specs.Admission.{Admission, candidate_of, candidates_in, capacity_in, drained, is_draining_now, is_ready_now, is_starting_now, limited, marked, pods_in, readied, with_limit, with_readiness}
use Rattle.kn_record.specs.Order.{IsInOrder}
use Rattle.kn_record.specs.Views.{pod_numbers}
use Rattle.kn_throttle.specs.declared.touched.Touched.{Touched}
use Rattle.kn_throttle.specs.declared.touched.Touched.TheVariants.{Nowhere, At, Anywhere}
use Rattle.kn_throttle.specs.Touched.{Covers, IsOneOf, is_touched, one_less, one_more}
use Rattle.kn_throttle.specs.Candidates as cands
use Rattle.kn_throttle.specs.Candidates.{capacity_of, with_changed}
use Rattle.kn_throttle.specs.Kept.{IsKept, breaker_in, can_leave, can_run, seat_of}
use Rattle.kn_throttle.proofs.Same.{eq-sym}
use Rattle.kn_throttle.proofs.Parts.{covers_less, covers_more}

-- ---- which pods are touched

numbers-map : (f : Pod → Pod) → ((q : Pod) → (f q).number ≡ q.number) → (all : List Pod) → pod_numbers (map f all) ≡ pod_numbers all
numbers-map f keeps [] = refl
numbers-map f keeps (q ∷ all) = rw (keeps q, numbers-map f keeps all) refl

pub covers-map : (f : Pod → Pod) (busy : Pod → Bool) (all : List Pod) (t : Touched) → ((q : Pod) → (f q).number ≡ q.number) → Covers (λ q. busy (f q)) all t → Covers busy (map f all) t
covers-map f busy all t keeps c = record {
  others = All-map (λ (q : Pod). is_touched q.number t ≡ false → busy q ≡ false) f all
      (All-weaker (λ (q : Pod). is_touched q.number t ≡ false → busy (f q) ≡ false) (λ (q : Pod). is_touched (f q).number t ≡ false → busy (f q) ≡ false) (λ q h u. h (rw (keeps q) at u)) all c.others);
  named = rw (numbers-map f keeps all) c.named;
}

-- one more pod has nothing to do
pub covers_new : (busy : Pod → Bool) (all : List Pod) (q : Pod) (t : Touched) → busy q ≡ false → Covers busy all t → Covers busy (all ++ q ∷ []) t
covers_new busy all q t idle c = record {
  others = All-push (λ (q : Pod). is_touched q.number t ≡ false → busy q ≡ false) all q c.others (λ u. idle);
  named = by t c.named;
}
  where
    more : (p : ℕ) (all : List Pod) → contains p (pod_numbers all) ≡ true → contains p (pod_numbers (all ++ q ∷ [])) ≡ true
    more p [] h = absurd (cc)
    more p (x ∷ all) h = split (x.number == p) h (λ e. more p all e)
      where
        split : (b : Bool) → (b || contains p (pod_numbers all)) ≡ true → (contains p (pod_numbers all) ≡ true → contains p (pod_numbers (all ++ q ∷ [])) ≡ true) → (b || contains p (pod_numbers (all ++ q ∷ []))) ≡ true
        split true h rest = refl
        split false h rest = rest h

    by : (t : Touched) → IsOneOf (pod_numbers all) t → IsOneOf (pod_numbers (all ++ q ∷ [])) t
    by Nowhere h = tt
    by (At p) h = more p all h
    by Anywhere h = tt

-- the pods but one
abbrev pub but : ℕ → List Pod → List Pod
but p all = filter (λ (q : Pod). not (p == q.number)) all

pub covers_gone : (p : ℕ) (busy : Pod → Bool) (all : List Pod) (t : Touched) → Covers busy all t → Covers busy (but p all) (one_less p t)
covers_gone p busy all t c = record { others = others all c.others; named = by t c.named }
  where
    same : (n : ℕ) (t : Touched) → (p == n) ≡ false → is_touched n (one_less p t) ≡ false → is_touched n t ≡ false
    same n Nowhere d h = refl
    same n (At q) d h = split (q == p) refl h
      where
        split : (b : Bool) → (q == p) ≡ b → is_touched n (if b then Nowhere else At q) ≡ false → (q == n) ≡ false
        split true e h = let same : q ≡ p = eqb-true q p e in rw same d
        split false e h = h
    same n Anywhere d h = h

    others : (all : List Pod) → All (λ (q : Pod). is_touched q.number t ≡ false → busy q ≡ false) all → All (λ (q : Pod). is_touched q.number (one_less p t) ≡ false → busy q ≡ false) (but p all)
    others [] h = All-nil (λ (q : Pod). is_touched q.number (one_less p t) ≡ false → busy q ≡ false)
    others (q ∷ all) h = split (p == q.number) refl (others all (All-tail (λ (q : Pod). is_touched q.number t ≡ false → busy q ≡ false) q all h)) (All-head (λ (q : Pod). is_touched q.number t ≡ false → busy q ≡ false) q all h)
      where
        split : (b : Bool) → (p == q.number) ≡ b → All (λ (q : Pod). is_touched q.number (one_less p t) ≡ false → busy q ≡ false) (but p all) → (is_touched q.number t ≡ false → busy q ≡ false)
            → All (λ (q : Pod). is_touched q.number (one_less p t) ≡ false → busy q ≡ false) (cond (not b) (q ∷ but p all) (but p all))
        split true e rest here = rest
        split false e rest here = All-cons (λ (q : Pod). is_touched q.number (one_less p t) ≡ false → busy q ≡ false) q (but p all) (λ u. here (same q.number t e u)) rest

    stays : (n : ℕ) (all : List Pod) → (n == p) ≡ false → contains n (pod_numbers all) ≡ true → contains n (pod_numbers (but p all)) ≡ true
    stays n [] d h = absurd (cc)
    stays n (q ∷ all) d h = split (p == q.number) refl (q.number == n) refl h (λ e. stays n all d e)
      where
        split : (b : Bool) → (p == q.number) ≡ b → (m : Bool) → (q.number == n) ≡ m → (m || contains n (pod_numbers all)) ≡ true → (contains n (pod_numbers all) ≡ true → contains n (pod_numbers (but p all)) ≡ true)
            → contains n (pod_numbers (cond (not b) (q ∷ but p all) (but p all))) ≡ true
        split true e true f h rest = absurd (let one : p ≡ q.number = eqb-true p q.number e in let two : q.number ≡ n = eqb-true q.number n f in let both : (n == p) ≡ true = eq-eqb n p (sym (one ∙ two)) in cc)
        split true e false f h rest = rest h
        split false e true f h rest = rw f refl
        split false e false f h rest = rw f (rest h)

    by : (t : Touched) → IsOneOf (pod_numbers all) t → IsOneOf (pod_numbers (but p all)) (one_less p t)
    by Nowhere h = tt
    by (At q) h = split (q == p) refl
      where
        split : (b : Bool) → (q == p) ≡ b → IsOneOf (pod_numbers (but p all)) (if b then Nowhere else At q)
        split true e = tt
        split false e = stays q all e h
    by Anywhere h = tt

-- ---- capacity

pub cands-capacity : (most : ℕ) (live : List Request) (all : List Pod) → capacity_of most (candidates_in live all) ≡ capacity_in most all
unfolding candidates_in capacity_in
cands-capacity most live all = ap (λ n. min most n) (sums (filter (λ (q : Pod). is_ready_now q.readiness) all))
  where
    sums : (ready : List Pod) → sum_by (λ (k : Cand). seats_of most k.limit) (map (candidate_of live) ready) ≡ sum_by (λ (q : Pod). seats_of most q.limit) ready
    sums [] = refl
    sums (q ∷ ready) = sum_by-cons (λ (k : Cand). seats_of most k.limit) (candidate_of live q) (map (candidate_of live) ready) ∙ ap (λ n. seats_of most q.limit + n) (sums ready) ∙ sym (sum_by-cons (λ (q : Pod). seats_of most q.limit) q ready)

pub breaker_set : (s : Spec) (b d : breaker.State) (n : ℕ) (live : List Request) (all new : List Pod) (k : List Cand) → b ≡ breaker_in s live all → d ≡ record b { capacity = n } → n ≡ capacity_of s.slots.max k → k ≡ candidates_in live new → d ≡ breaker_in s live new
breaker_set s b d n live all new k e f g h = f ∙ ap (λ (x : breaker.State). record x { capacity = n }) e ∙ rw (g, h, cands-capacity s.slots.max live new) refl

-- ---- another limit

pub limited_number : (p n : ℕ) (q : Pod) → (limited p n q).number ≡ q.number
limited_number p n q = by (p == q.number)
  where
    by : (b : Bool) → (if b then record q { limit = n } else q).number ≡ q.number
    by true = refl
    by false = refl

seats-limited : (p n : ℕ) (live : List Request) (all : List Pod) → map (seat_of live) (with_limit p n all) ≡ with_pod_changed p (λ pod. record pod { limit = n }) (map (seat_of live) all)
seats-limited p n live [] = refl
seats-limited p n live (q ∷ all) = rw (seats-limited p n live all, eq-sym q.number p) (by (p == q.number))
  where
    rest : List seat.Pod
    rest = with_pod_changed p (λ pod. record pod { limit = n }) (map (seat_of live) all)

    by : (b : Bool) → seat_of live (if b then record q { limit = n } else q) ∷ rest ≡ (if b then record (seat_of live q) { limit = n } else seat_of live q) ∷ rest
    by true = refl
    by false = refl

cands-limited : (p n : ℕ) (live : List Request) (all : List Pod) → candidates_in live (with_limit p n all) ≡ with_changed p (cands.limited n) (candidates_in live all)
unfolding candidates_in
cands-limited p n live [] = refl
cands-limited p n live (q ∷ all) = by (p == q.number) refl (is_ready_now q.readiness) refl (cands-limited p n live all)
  where
    old : List Pod
    old = filter (λ (q : Pod). is_ready_now q.readiness) all

    new : List Pod
    new = filter (λ (q : Pod). is_ready_now q.readiness) (with_limit p n all)

    by : (m : Bool) → (p == q.number) ≡ m → (b : Bool) → is_ready_now q.readiness ≡ b → map (candidate_of live) new ≡ with_changed p (cands.limited n) (map (candidate_of live) old)
        → map (candidate_of live) (filter (λ (q : Pod). is_ready_now q.readiness) ((if m then record q { limit = n } else q) ∷ with_limit p n all)) ≡ with_changed p (cands.limited n) (map (candidate_of live) (cond b (q ∷ old) old))
    by true e true f rest = rw (f, eq-sym q.number p, e, rest) refl
    by false e true f rest = rw (f, eq-sym q.number p, e, rest) refl
    by true e false f rest = rw f rest
    by false e false f rest = rw f rest

pub kept_limited : (s : Spec) (a : Admission) (b d : breaker.State) (t u : seats.State) (k l : List Cand) (p : policy.State) (run leave : Touched) (m n c : ℕ) → IsKept s a b t k p run leave
    → IsInOrder (record a { pods = with_limit m n a.pods }) → contains m (pod_numbers a.pods) ≡ true
    → u ≡ seats.change m (λ pod. record pod { limit = n }) t → requests_at_all u.pods ≡ requests_at_all t.pods → l ≡ with_changed m (cands.limited n) k → c ≡ capacity_of s.slots.max l → d ≡ record b { capacity = c }
    → IsKept s (record a { pods = with_limit m n a.pods }) d u l p (one_more m run) leave
kept_limited s a b d t u k l p run leave m n c h order there e count f g w =
    let sound = h.sound in
    let few = sound.few_pods in
    let change : seat.Pod → seat.Pod = λ pod. record pod { limit = n } in
    let are : l ≡ candidates_in a.live (with_limit m n a.pods) = f ∙ ap (λ (x : List Cand). with_changed m (cands.limited n) x) h.candidates ∙ sym (cands-limited m n a.live a.pods) in
    record {
      sound = record { order = order; few = sound.few; few_pods = rw (length-with m n a.pods) few; turn = sound.turn; assignments = sound.assignments; arrivals = sound.arrivals };
      breaker = breaker_set s b d c a.live a.pods (with_limit m n a.pods) l h.breaker w g are;
      seats = e ∙ ap (λ (x : seats.State). seats.change m change x) h.seats ∙ rw (seats-limited m n a.live a.pods) refl;
      placed = rw count h.placed;
      candidates = are;
      policy = h.policy;
      runs = covers-map (limited m n) (can_run a.live) a.pods (one_more m run) (limited_number m n)
          (covers_more m (can_run a.live) (λ q. can_run a.live (limited m n q)) a.pods run there (λ q o. ap (λ (b : Bool). can_run a.live (if b then record q { limit = n } else q)) o) h.runs);
      leaves = covers-map (limited m n) (can_leave a.live) a.pods leave (limited_number m n) (covers_less (can_leave a.live) (λ q. can_leave a.live (limited m n q)) a.pods leave (λ q o. leaves_same (m == q.number) q o) h.leaves);
    }
  where
    length-with : (p n : ℕ) (all : List Pod) → length (with_limit p n all) ≡ length all
    length-with p n [] = refl
    length-with p n (q ∷ all) = let rest = length-with p n all in omega arith

    leaves_same : (b : Bool) (q : Pod) → can_leave a.live q ≡ false → can_leave a.live (if b then record q { limit = n } else q) ≡ false
    leaves_same true q o = o
    leaves_same false q o = o

-- ---- further readiness

pub marked_number : (p : ℕ) (f : Readiness → Readiness) (q : Pod) → (marked p f q).number ≡ q.number
marked_number p f q = by (p == q.number)
  where
    by : (b : Bool) → (if b then record q { readiness = f q.readiness } else q).number ≡ q.number
    by true = refl
    by false = refl

length-marked : (p : ℕ) (f : Readiness → Readiness) (all : List Pod) → length (with_readiness p f all) ≡ length all
length-marked p f [] = refl
length-marked p f (q ∷ all) = let rest = length-marked p f all in omega arith

readied_drains : (x : Readiness) → is_draining_now (readied x) ≡ is_draining_now x
readied_drains readiness.Starting = refl
readied_drains readiness.Ready = refl
readied_drains readiness.Draining = refl

-- readiness changes no seat but for draining
pub seats-readied : (p : ℕ) (live : List Request) (all : List Pod) → map (seat_of live) (with_readiness p readied all) ≡ map (seat_of live) all
seats-readied p live [] = refl
seats-readied p live (q ∷ all) = rw (seats-readied p live all) (by (p == q.number))
  where
    by : (b : Bool) → seat_of live (if b then record q { readiness = readied q.readiness } else q) ∷ map (seat_of live) all ≡ seat_of live q ∷ map (seat_of live) all
    by true = rw (readied_drains q.readiness) refl
    by false = refl

seats-drained : (p : ℕ) (live : List Request) (all : List Pod) → map (seat_of live) (with_readiness p drained all) ≡ with_pod_changed p (λ pod. record pod { draining = true }) (map (seat_of live) all)
seats-drained p live [] = refl
seats-drained p live (q ∷ all) = rw (seats-drained p live all, eq-sym q.number p) (by (p == q.number))
  where
    rest : List seat.Pod
    rest = with_pod_changed p (λ pod. record pod { draining = true }) (map (seat_of live) all)

    by : (b : Bool) → seat_of live (if b then record q { readiness = drained q.readiness } else q) ∷ rest ≡ (if b then record (seat_of live q) { draining = true } else seat_of live q) ∷ rest
    by true = refl
    by false = refl

cands-drained : (p : ℕ) (live : List Request) (all : List Pod) → candidates_in live (with_readiness p drained all) ≡ filter (λ (k : Cand). not (k.pod == p)) (candidates_in live all)
unfolding candidates_in
cands-drained p live [] = refl
cands-drained p live (q ∷ all) = by (p == q.number) refl (is_ready_now q.readiness) refl (cands-drained p live all)
  where
    old : List Pod
    old = filter (λ (q : Pod). is_ready_now q.readiness) all

    new : List Pod
    new = filter (λ (q : Pod). is_ready_now q.readiness) (with_readiness p drained all)

    by : (m : Bool) → (p == q.number) ≡ m → (b : Bool) → is_ready_now q.readiness ≡ b → map (candidate_of live) new ≡ filter (λ (k : Cand). not (k.pod == p)) (map (candidate_of live) old)
        → map (candidate_of live) (filter (λ (q : Pod). is_ready_now q.readiness) ((if m then record q { readiness = drained q.readiness } else q) ∷ with_readiness p drained all)) ≡ filter (λ (k : Cand). not (k.pod == p)) (map (candidate_of live) (cond b (q ∷ old) old))
    by true e true f rest = rw (eq-sym q.number p, e) rest
    by true e false f rest = rest
    by false e true f rest = rw (f, eq-sym q.number p, e, rest) refl
    by false e false f rest = rw f rest

pub kept_drained : (s : Spec) (a : Admission) (b d : breaker.State) (t u : seats.State) (k l : List Cand) (p : policy.State) (run leave : Touched) (m c : ℕ) → IsKept s a b t k p run leave
    → IsInOrder (record a { pods = with_readiness m drained a.pods }) → contains m (pod_numbers a.pods) ≡ true
    → u ≡ seats.change m (λ pod. record pod { draining = true }) t → requests_at_all u.pods ≡ requests_at_all t.pods → l ≡ filter (λ (x : Cand). not (x.pod == m)) k → c ≡ capacity_of s.slots.max l → d ≡ record b { capacity = c }
    → IsKept s (record a { pods = with_readiness m drained a.pods }) d u l p run (one_more m leave)
kept_drained s a b d t u k l p run leave m c h order there e count f g w =
    let sound = h.sound in
    let change : seat.Pod → seat.Pod = λ pod. record pod { draining = true } in
    let are : l ≡ candidates_in a.live (with_readiness m drained a.pods) = f ∙ ap (λ (x : List Cand). filter (λ (y : Cand). not (y.pod == m)) x) h.candidates ∙ sym (cands-drained m a.live a.pods) in
    record {
      sound = record { order = order; few = sound.few; few_pods = rw (length-marked m drained a.pods) sound.few_pods; turn = sound.turn; assignments = sound.assignments; arrivals = sound.arrivals };
      breaker = breaker_set s b d c a.live a.pods (with_readiness m drained a.pods) l h.breaker w g are;
      seats = e ∙ ap (λ (x : seats.State). seats.change m change x) h.seats ∙ rw (seats-drained m a.live a.pods) refl;
      placed = rw count h.placed;
      candidates = are;
      policy = h.policy;
      runs = covers-map (marked m drained) (can_run a.live) a.pods run (marked_number m drained) (covers_less (can_run a.live) (λ q. can_run a.live (marked m drained q)) a.pods run (λ q o. runs_same (m == q.number) q o) h.runs);
      leaves = covers-map (marked m drained) (can_leave a.live) a.pods (one_more m leave) (marked_number m drained)
          (covers_more m (can_leave a.live) (λ q. can_leave a.live (marked m drained q)) a.pods leave there (λ q o. ap (λ (b : Bool). can_leave a.live (if b then record q { readiness = drained q.readiness } else q)) o) h.leaves);
    }
  where
    runs_same : (b : Bool) (q : Pod) → can_run a.live q ≡ false → can_run a.live (if b then record q { readiness = drained q.readiness } else q) ≡ false
    runs_same true q o = o
    runs_same false q o = o

-- who is Starting or Ready is there
pub either_there : (p : ℕ) (all : List Pod) → (contains p (pods_in is_starting_now all) || contains p (pods_in is_ready_now all)) ≡ true → contains p (pod_numbers all) ≡ true
either_there p all h = by (contains p (pods_in is_starting_now all)) refl h
  where
    within : (test : Readiness → Bool) (all : List Pod) → contains p (pods_in test all) ≡ true → contains p (pod_numbers all) ≡ true
    within test [] h = absurd (cc)
    within test (q ∷ all) h = split (test q.readiness) (q.number == p) refl h (λ e. within test all e)
      where
        split : (b m : Bool) → (q.number == p) ≡ m → contains p (map (λ (q : Pod). q.number) (cond b (q ∷ filter (λ (q : Pod). test q.readiness) all) (filter (λ (q : Pod). test q.readiness) all))) ≡ true
            → (contains p (pods_in test all) ≡ true → contains p (pod_numbers all) ≡ true) → (m || contains p (pod_numbers all)) ≡ true
        split b true e h rest = refl
        split true false e h rest = rest (rw e at h)
        split false false e h rest = rest h

    by : (b : Bool) → contains p (pods_in is_starting_now all) ≡ b → (b || contains p (pods_in is_ready_now all)) ≡ true → contains p (pod_numbers all) ≡ true
    by true e h = within is_starting_now all e
    by false e h = within is_ready_now all h
