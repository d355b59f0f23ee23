-- What is kept when a pod is created or becomes Ready, and when one goes.
use Rattle.std.proofs.Common.{◌≡◌, ℕ, suc, ◌+◌, ◌<◌, ◌≤◌, Bool, true, false, not, cond, ◌&&◌, ◌||◌, List, [], ◌∷◌, ◌++◌, length, map, min, nat_lt, refl, sym, ap, ◌∙◌, arith, append-nil, length-append}
use Rattle.std.specs.Prelude.{Some, ◌==◌, if◌then◌else◌}
use Rattle.std.specs.List.{All, filter, insert, position_or_len}
use Rattle.std.proofs.lemmas.Bool.{eqb-true, eq-eqb}
use Rattle.std.proofs.lemmas.Bool.Decides.{nat_tests}
use Rattle.std.proofs.lemmas.List.Elements.{All-cons, All-head, All-map, All-nil, All-tail, All-weaker, filter-append}
use Rattle.kn_event.specs.declared.revision.Spec.{Spec}
use Rattle.kn_event.specs.Lists.{contains}
use Rattle.kn_trace.specs.declared.candidate.Cand.{Cand}
use Rattle.kn_trace.specs.Trace.{is_empty}
use Rattle.kn_breaker.specs.Breaker as breaker
use Rattle.kn_seats.specs.Seats as seats
use Rattle.kn_seats.specs.Pods.{has_pod, idle_pod, pod_at, requests_at, requests_at_all, with_pod_changed, without_pod}
use Rattle.kn_seats.specs.Pods as seat
use Rattle.kn_policy.specs.Policy as policy
use Rattle.kn_policy.specs.Policy.{policy_at}
use Rattle.kn_record.specs.declared.admission.Place.{Place}
use Rattle.kn_record.specs.declared.admission.Place.TheVariants as place
use Rattle.kn_record.specs.declared.admission.Readiness.{Readiness}
use Rattle.kn_record.specs.declared.admission.Readiness.TheVariants as readiness
use Rattle.kn_record.specs.declared.admission.Request.{Request}
use Rattle.kn_record.specs.declared.admission.Pod.{Pod}
use Rattle.kn_record.specs.Admission.{Admission, candidate_of, candidates_in, capacity_in, is_at, is_draining_now, is_ready_now, is_starting_now, marked, placed_in, pods_in, queues_at, readied, runs_at, with_readiness}
use Rattle.kn_record.specs.Order.{IsAmong, IsInOrder}
use Rattle.kn_record.specs.Views.{is_free, pod_numbered, pod_numbers}
use Rattle.kn_throttle.specs.declared.touched.Touched.{Touched}
use Rattle.kn_throttle.specs.declared.touched.Touched.TheVariants.{Nowhere}
use Rattle.kn_throttle.specs.Touched.{one_less}
use Rattle.kn_throttle.specs.Candidates.{capacity_of}
use Rattle.kn_throttle.specs.Pods.{AreAscending}
use Rattle.kn_throttle.specs.Kept.{IsKept, breaker_in, can_leave, can_run, pods_room, seat_of, seats_in}
use Rattle.kn_throttle.proofs.Places.{above_first, not_named, rest_ascends}
use Rattle.kn_throttle.proofs.Same.{at-parts, eq-sym}
use Rattle.kn_throttle.proofs.Parts.{covers_less, pod_of}
use Rattle.kn_throttle.proofs.Living.{breaker_set, but, covers-map, covers_gone, covers_new, marked_number, seats-readied}

-- ---- a pod that is created

-- nobody is at a pod that isn't there
pub none_at : (p : ℕ) (ps : List ℕ) (live : List Request) → contains p ps ≡ false → All (λ (x : Request). IsAmong ps x.place) live → placed_in (is_at p) live ≡ []
none_at p ps [] out homes = refl
none_at p ps (q ∷ live) out homes =
    by q.place (All-head (λ (x : Request). IsAmong ps x.place) q live homes) (none_at p ps live out (All-tail (λ (x : Request). IsAmong ps x.place) q live homes))
  where
    off : (o : ℕ) → contains o ps ≡ true → (o == p) ≡ false
    off o here = not_named o p (λ e. absurd (let there : contains p ps ≡ true = rw (← e) here in cc))

    by : (x : Place) → IsAmong ps x → placed_in (is_at p) live ≡ [] → map (λ (q : Request). q.number) (cond (is_at p x) (q ∷ filter (λ (q : Request). is_at p q.place) live) (filter (λ (q : Request). is_at p q.place) live)) ≡ []
    by place.Held h rest = rest
    by (place.Queued o) h rest = rw (off o h) rest
    by (place.Running o b) h rest = rw (off o h) rest

pub empty_from : (xs : List ℕ) → length xs ≡ 0 → xs ≡ []
empty_from [] h = refl
empty_from (x ∷ xs) h = absurd (omega arith)

-- so nobody runs or is queued there
pub record IsIdleAt (p : ℕ) (live : List Request) : Type 0 where
  pub runs : placed_in (runs_at p) live ≡ []
  pub queues : placed_in (queues_at p) live ≡ []

pub idle_at : (p : ℕ) (live : List Request) → placed_in (is_at p) live ≡ [] → IsIdleAt p live
idle_at p live none =
    let parts = at-parts p live in
    let total : length (placed_in (is_at p) live) ≡ 0 = ap length none in
    record { runs = empty_from (placed_in (runs_at p) live) (omega arith); queues = empty_from (placed_in (queues_at p) live) (omega arith) }

above_all : (p : ℕ) (all : List Pod) → All (λ (x : Pod). x.number < p) all → contains p (pod_numbers all) ≡ false
above_all p [] h = refl
above_all p (q ∷ all) h =
    let below : q.number < p = All-head (λ (x : Pod). x.number < p) q all h in
    let other : (q.number == p) ≡ false = not_named q.number p (λ e. absurd (omega arith)) in
    rw other (above_all p all (All-tail (λ (x : Pod). x.number < p) q all h))

map-push : {X Y : Type 0} (f : X → Y) (xs : List X) (x : X) → map f (xs ++ x ∷ []) ≡ map f xs ++ f x ∷ []
map-push f [] x = refl
map-push f (y ∷ xs) x = ap (λ l. f y ∷ l) (map-push f xs x)

ready-created : (all : List Pod) (q : Pod) → is_ready_now q.readiness ≡ false → filter (λ (q : Pod). is_ready_now q.readiness) (all ++ q ∷ []) ≡ filter (λ (q : Pod). is_ready_now q.readiness) all
ready-created all q h = filter-append (λ (q : Pod). is_ready_now q.readiness) all (q ∷ []) ∙ rw h (append-nil (filter (λ (q : Pod). is_ready_now q.readiness) all))

-- what the seats ask of a new pod
pub above_seats : (live : List Request) (p : ℕ) (all : List Pod) → All (λ (x : Pod). x.number < p) all → All (λ (x : seat.Pod). x.number < p) (map (seat_of live) all)
above_seats live p all h = All-map (λ (x : seat.Pod). x.number < p) (seat_of live) all h

pub length-seats : (live : List Request) (all : List Pod) → length (map (seat_of live) all) ≡ length all
length-seats live [] = refl
length-seats live (q ∷ all) = let rest = length-seats live all in omega arith

pub kept_created : (s : Spec) (a : Admission) (b : breaker.State) (t u : seats.State) (k : List Cand) (p : policy.State) (run leave : Touched) (m n : ℕ) → IsKept s a b t k p run leave → m ≡ a.created
    → IsInOrder (record a { created = a.created + 1; pods = a.pods ++ record { number = m; limit = n; readiness = readiness.Starting } ∷ [] }) → length a.pods < pods_room
    → u ≡ record t { pods = t.pods ++ idle_pod m n ∷ [] } → requests_at_all u.pods ≡ requests_at_all t.pods
    → IsKept s (record a { created = a.created + 1; pods = a.pods ++ record { number = m; limit = n; readiness = readiness.Starting } ∷ [] }) b u k p run leave
unfolding capacity_in candidates_in
kept_created s a b t u k p run leave m n h is order room e count =
    let q : Pod = record { number = m; limit = n; readiness = readiness.Starting } in
    let sound = h.sound in
    let more = length-append a.pods (q ∷ []) in
    let idle = idle_at m a.live (none_at m (pod_numbers a.pods) a.live (above_all m a.pods (rw is sound.order.created)) sound.order.homes) in
    record {
      sound = record { order = order; few = sound.few; few_pods = omega arith; turn = sound.turn; assignments = sound.assignments; arrivals = sound.arrivals };
      breaker = h.breaker ∙ same_breaker;
      seats = e ∙ ap (λ (x : seats.State). record x { pods = x.pods ++ idle_pod m n ∷ [] }) h.seats ∙ rw (map-push (seat_of a.live) a.pods q, idle.runs, idle.queues) refl;
      placed = rw count h.placed;
      candidates = h.candidates ∙ same_cands;
      policy = h.policy;
      runs = covers_new (can_run a.live) a.pods q run (rw idle.queues (and_false (is_free a.live q))) h.runs;
      leaves = covers_new (can_leave a.live) a.pods q leave refl h.leaves;
    }
  where
    q : Pod
    q = record { number = m; limit = n; readiness = readiness.Starting }

    and_false : (b : Bool) → (b && false) ≡ false
    and_false true = refl
    and_false false = refl

    same_breaker : breaker_in s a.live a.pods ≡ breaker_in s a.live (a.pods ++ q ∷ [])
    same_breaker = rw (ready-created a.pods q refl) refl

    same_cands : candidates_in a.live a.pods ≡ candidates_in a.live (a.pods ++ q ∷ [])
    same_cands = rw (ready-created a.pods q refl) refl

-- ---- a pod that is Ready

marked_ready : Pod → Pod
marked_ready q = record q { readiness = readied q.readiness }

-- where the number isn't there nothing is marked
unmarked : (p : ℕ) (all : List Pod) → contains p (pod_numbers all) ≡ false → with_readiness p readied all ≡ all
unmarked p [] h = refl
unmarked p (q ∷ all) h = by (q.number == p) refl h (λ e. unmarked p all e)
  where
    by : (b : Bool) → (q.number == p) ≡ b → (b || contains p (pod_numbers all)) ≡ false → (contains p (pod_numbers all) ≡ false → with_readiness p readied all ≡ all) → marked p readied q ∷ with_readiness p readied all ≡ q ∷ all
    by true e h rest = absurd (cc)
    by false e h rest = rw (eq-sym p q.number, e, rest h) refl

none_behind : (p : ℕ) (cands : List Cand) → All (λ (k : Cand). p < k.pod) cands → position_or_len (λ (k : Cand). nat_lt p k.pod) cands ≡ 0
none_behind p [] h = refl
none_behind p (k ∷ cands) h =
    let above : p < k.pod = All-head (λ (k : Cand). p < k.pod) k cands h in
    let test : nat_lt p k.pod ≡ true = grind (arith, nat_tests) in
    rw test refl

above_cands : (p : ℕ) (live : List Request) (all : List Pod) → All (λ (x : Pod). p < x.number) all → All (λ (k : Cand). p < k.pod) (candidates_in live all)
unfolding candidates_in
above_cands p live [] h = All-nil (λ (k : Cand). p < k.pod)
above_cands p live (q ∷ all) h = by (is_ready_now q.readiness) (above_cands p live all (All-tail (λ (x : Pod). p < x.number) q all h))
  where
    ready : List Pod
    ready = filter (λ (q : Pod). is_ready_now q.readiness) all

    by : (b : Bool) → All (λ (k : Cand). p < k.pod) (map (candidate_of live) ready) → All (λ (k : Cand). p < k.pod) (map (candidate_of live) (cond b (q ∷ ready) ready))
    by true rest = All-cons (λ (k : Cand). p < k.pod) (candidate_of live q) (map (candidate_of live) ready) (All-head (λ (x : Pod). p < x.number) q all h) rest
    by false rest = rest

starting_named : (p : ℕ) (all : List Pod) → contains p (pods_in is_starting_now all) ≡ true → contains p (pod_numbers all) ≡ true
starting_named p [] h = absurd (cc)
starting_named p (q ∷ all) h = split (is_starting_now q.readiness) (q.number == p) refl h (λ e. starting_named p all e)
  where
    split : (b m : Bool) → (q.number == p) ≡ m → contains p (map (λ (q : Pod). q.number) (cond b (q ∷ filter (λ (q : Pod). is_starting_now q.readiness) all) (filter (λ (q : Pod). is_starting_now q.readiness) all))) ≡ true
        → (contains p (pods_in is_starting_now all) ≡ true → contains p (pod_numbers all) ≡ true) → (m || contains p (pod_numbers all)) ≡ true
    split b true e h rest = refl
    split true false e h rest = rest (rw e at h)
    split false false e h rest = rest h

pub starting_there : (p : ℕ) (all : List Pod) → contains p (pods_in is_starting_now all) ≡ true → contains p (pod_numbers all) ≡ true
starting_there p all h = starting_named p all h

-- a number that is there lies above those before it
pub below_there : (p n : ℕ) (all : List Pod) → All (λ (x : Pod). n < x.number) all → contains p (pod_numbers all) ≡ true → n < p
below_there p n [] above h = absurd (cc)
below_there p n (q ∷ all) above h = by (q.number == p) refl h (λ e. below_there p n all (All-tail (λ (x : Pod). n < x.number) q all above) e)
  where
    by : (b : Bool) → (q.number == p) ≡ b → (b || contains p (pod_numbers all)) ≡ true → (contains p (pod_numbers all) ≡ true → n < p) → n < p
    by true e h rest = let same : q.number ≡ p = eqb-true q.number p e in rw (← same) (All-head (λ (x : Pod). n < x.number) q all above)
    by false e h rest = rest h

gone_above : (p : ℕ) (all : List Pod) → All (λ (x : Pod). p < x.number) all → contains p (pod_numbers all) ≡ false
gone_above p [] h = refl
gone_above p (q ∷ all) h =
    let above : p < q.number = All-head (λ (x : Pod). p < x.number) q all h in
    let other : (q.number == p) ≡ false = not_named q.number p (λ e. absurd (omega arith)) in
    rw other (gone_above p all (All-tail (λ (x : Pod). p < x.number) q all h))

pub cands-readied : (p : ℕ) (live : List Request) (all : List Pod) (x : Cand) → AreAscending all → contains p (pods_in is_starting_now all) ≡ true → All (λ (q : Pod). q.number ≡ p → candidate_of live q ≡ x) all
    → candidates_in live (with_readiness p readied all) ≡ insert (candidates_in live all) (position_or_len (λ (k : Cand). nat_lt p k.pod) (candidates_in live all)) x
unfolding candidates_in
cands-readied p live [] x rise h is = absurd (cc)
cands-readied p live (q ∷ all) x rise h is =
    by (q.number == p) refl q.readiness refl h (λ e. cands-readied p live all x (rest_ascends (λ (q : Pod). q.number) q all rise) e (All-tail (λ (q : Pod). q.number ≡ p → candidate_of live q ≡ x) q all is))
  where
    above : All (λ (y : Pod). q.number < y.number) all
    above = λ k d h. above_first (λ (q : Pod). q.number) q all rise k d h

    old : List Pod
    old = filter (λ (q : Pod). is_ready_now q.readiness) all

    new : List Pod
    new = filter (λ (q : Pod). is_ready_now q.readiness) (with_readiness p readied all)

    here : q.number ≡ p → candidate_of live q ≡ x
    here = All-head (λ (q : Pod). q.number ≡ p → candidate_of live q ≡ x) q all is

    later : (q.number == p) ≡ true → contains p (pods_in is_starting_now all) ≡ true → ⊥
    later e h = let same : q.number ≡ p = eqb-true q.number p e in let less : q.number < p = below_there p q.number all above (starting_named p all h) in omega arith

    past : contains p (pods_in is_starting_now all) ≡ true → nat_lt p q.number ≡ false
    past h = let less : q.number < p = below_there p q.number all above (starting_named p all h) in grind (arith, nat_tests)

    first : (q.number == p) ≡ true → (contains p (pod_numbers all) ≡ false) × (position_or_len (λ (k : Cand). nat_lt p k.pod) (map (candidate_of live) old) ≡ 0)
    first e =
        let same : q.number ≡ p = eqb-true q.number p e in
        let higher : All (λ (y : Pod). p < y.number) all = rw same at above in
        (gone_above p all higher, none_behind p (map (candidate_of live) old) (above_cands p live all higher))

    one_more : (k : Cand) (cs : List Cand) (i : ℕ) → insert (k ∷ cs) (1 + i) x ≡ k ∷ insert cs i x
    one_more k cs i = let f : 1 + i ≡ suc i = omega arith in rw f refl

    by : (m : Bool) → (q.number == p) ≡ m → (r : Readiness) → q.readiness ≡ r → contains p (map (λ (q : Pod). q.number) (filter (λ (q : Pod). is_starting_now q.readiness) (q ∷ all))) ≡ true
        → (contains p (pods_in is_starting_now all) ≡ true → map (candidate_of live) new ≡ insert (map (candidate_of live) old) (position_or_len (λ (k : Cand). nat_lt p k.pod) (map (candidate_of live) old)) x)
        → map (candidate_of live) (filter (λ (q : Pod). is_ready_now q.readiness) (marked p readied q ∷ with_readiness p readied all))
        ≡ insert (map (candidate_of live) (filter (λ (q : Pod). is_ready_now q.readiness) (q ∷ all))) (position_or_len (λ (k : Cand). nat_lt p k.pod) (map (candidate_of live) (filter (λ (q : Pod). is_ready_now q.readiness) (q ∷ all)))) x
    by true e readiness.Starting f h rest =
        let facts = first e in
        rw (eq-sym p q.number, e, f, unmarked p all facts.0, facts.1) (ap (λ (k : Cand). k ∷ map (candidate_of live) old) (here (eqb-true q.number p e)))
    by true e readiness.Ready f h rest = absurd (later e (rw f at h))
    by true e readiness.Draining f h rest = absurd (later e (rw f at h))
    by false e readiness.Starting f h rest = rw (eq-sym p q.number, e, f) (rest (rw (f, e) at h))
    by false e readiness.Ready f h rest =
        let there : contains p (pods_in is_starting_now all) ≡ true = rw f at h in
        rw (eq-sym p q.number, e, f, past there, one_more (candidate_of live q) (map (candidate_of live) old) (position_or_len (λ (k : Cand). nat_lt p k.pod) (map (candidate_of live) old))) (ap (λ (l : List Cand). candidate_of live q ∷ l) (rest there))
    by false e readiness.Draining f h rest = rw (eq-sym p q.number, e, f) (rest (rw f at h))

-- there is one pod of a number
pub only_pod : (p : ℕ) (all : List Pod) (pod : Pod) → AreAscending all → pod_numbered p all ≡ Some pod → All (λ (q : Pod). q.number ≡ p → q ≡ pod) all
only_pod p [] pod rise f = All-nil (λ (q : Pod). q.number ≡ p → q ≡ pod)
only_pod p (q ∷ all) pod rise f = by (q.number == p) refl f (λ e. only_pod p all pod (rest_ascends (λ (q : Pod). q.number) q all rise) e)
  where
    by : (b : Bool) → (q.number == p) ≡ b → (if b then Some q else pod_numbered p all) ≡ Some pod → (pod_numbered p all ≡ Some pod → All (λ (q : Pod). q.number ≡ p → q ≡ pod) all) → All (λ (q : Pod). q.number ≡ p → q ≡ pod) (q ∷ all)
    by true e f rest =
        let same : q ≡ pod = cc in
        let number : q.number ≡ p = eqb-true q.number p e in
        All-cons (λ (q : Pod). q.number ≡ p → q ≡ pod) q all (λ n. same) (λ k d h n. absurd (let less = above_first (λ (q : Pod). q.number) q all rise k d h in omega arith))
    by false e f rest = All-cons (λ (q : Pod). q.number ≡ p → q ≡ pod) q all (λ n. absurd (let here : (q.number == p) ≡ true = eq-eqb q.number p n in cc)) (rest f)

-- a pod that isn't Ready is no candidate
pub fewer_ready : (p : ℕ) (live : List Request) (all : List Pod) → contains p (pods_in is_starting_now all) ≡ true → length (candidates_in live all) < length all
unfolding candidates_in
fewer_ready p live [] h = absurd (cc)
fewer_ready p live (q ∷ all) h = by q.readiness refl h (λ e. fewer_ready p live all e)
  where
    ready : List Pod
    ready = filter (λ (q : Pod). is_ready_now q.readiness) all

    most : (all : List Pod) → length (map (candidate_of live) (filter (λ (q : Pod). is_ready_now q.readiness) all)) < length all + 1
    most [] = omega arith
    most (q ∷ all) = split (is_ready_now q.readiness) (most all)
      where
        split : (b : Bool) → length (map (candidate_of live) (filter (λ (q : Pod). is_ready_now q.readiness) all)) < length all + 1
            → length (map (candidate_of live) (cond b (q ∷ filter (λ (q : Pod). is_ready_now q.readiness) all) (filter (λ (q : Pod). is_ready_now q.readiness) all))) < length (q ∷ all) + 1
        split true h = omega arith
        split false h = omega arith

    by : (r : Readiness) → q.readiness ≡ r → contains p (map (λ (q : Pod). q.number) (filter (λ (q : Pod). is_starting_now q.readiness) (q ∷ all))) ≡ true → (contains p (pods_in is_starting_now all) ≡ true → length (map (candidate_of live) ready) < length all)
        → length (map (candidate_of live) (filter (λ (q : Pod). is_ready_now q.readiness) (q ∷ all))) < length (q ∷ all)
    by readiness.Starting f h rest = let less = most all in rw f (omega arith)
    by readiness.Ready f h rest = let less = rest (rw f at h) in rw f (omega arith)
    by readiness.Draining f h rest = let less = most all in rw f (omega arith)

length-marked : (p : ℕ) (all : List Pod) → length (with_readiness p readied all) ≡ length all
length-marked p [] = refl
length-marked p (q ∷ all) = let rest = length-marked p all in omega arith

-- the candidate that a Ready pod is
pub candidate_there : (t : seats.State) (live : List Request) (all : List Pod) (m limit running : ℕ) → t ≡ seats_in live all → AreAscending all → contains m (pod_numbers all) ≡ true → limit ≡ (pod_at m t.pods).limit → running ≡ (pod_at m t.pods).running
    → All (λ (q : Pod). q.number ≡ m → candidate_of live q ≡ record { pod = m; limit = limit; running = running }) all
candidate_there t live all m limit running e rise there l r =
    let pod = pod_of live m all there in
    let only = only_pod m all pod.pod rise pod.found in
    let at_limit : limit ≡ pod.pod.limit = l ∙ rw (e, pod.seat) refl in
    let at_running : running ≡ length (placed_in (runs_at pod.pod.number) live) = r ∙ rw (e, pod.seat) refl in
    All-weaker (λ (q : Pod). q.number ≡ m → q ≡ pod.pod) (λ (q : Pod). q.number ≡ m → candidate_of live q ≡ record { pod = m; limit = limit; running = running })
    (λ q is n. ap (λ (y : Pod). candidate_of live y) (is n) ∙ rw (at_limit, at_running, pod.number) refl) all only

pub kept_readied : (s : Spec) (a : Admission) (b d : breaker.State) (t : seats.State) (k l : List Cand) (p : policy.State) (run leave : Touched) (m c : ℕ) (x : Cand) → IsKept s a b t k p run leave
    → IsInOrder (record a { pods = with_readiness m readied a.pods }) → contains m (pods_in is_starting_now a.pods) ≡ true → All (λ (q : Pod). q.number ≡ m → candidate_of a.live q ≡ x) a.pods
    → l ≡ insert k (position_or_len (λ (y : Cand). nat_lt m y.pod) k) x → c ≡ capacity_of s.slots.max l → d ≡ record b { capacity = c }
    → IsKept s (record a { pods = with_readiness m readied a.pods }) d t l p run leave
kept_readied s a b d t k l p run leave m c x h order starts is f g w =
    let sound = h.sound in
    let are : l ≡ candidates_in a.live (with_readiness m readied a.pods) =
    f ∙ ap (λ (y : List Cand). insert y (position_or_len (λ (z : Cand). nat_lt m z.pod) y) x) h.candidates ∙ sym (cands-readied m a.live a.pods x sound.order.pods starts is) in
    record {
      sound = record { order = order; few = sound.few; few_pods = rw (length-marked m a.pods) sound.few_pods; turn = sound.turn; assignments = sound.assignments; arrivals = sound.arrivals };
      breaker = breaker_set s b d c a.live a.pods (with_readiness m readied a.pods) l h.breaker w g are;
      seats = h.seats ∙ rw (seats-readied m a.live a.pods) refl;
      placed = h.placed;
      candidates = are;
      policy = h.policy;
      runs = covers-map (marked m readied) (can_run a.live) a.pods run (marked_number m readied) (covers_less (can_run a.live) (λ q. can_run a.live (marked m readied q)) a.pods run (λ q o. runs_same (m == q.number) q o) h.runs);
      leaves = covers-map (marked m readied) (can_leave a.live) a.pods leave (marked_number m readied) (covers_less (can_leave a.live) (λ q. can_leave a.live (marked m readied q)) a.pods leave (λ q o. leaves_same (m == q.number) q o) h.leaves);
    }
  where
    runs_same : (b : Bool) (q : Pod) → can_run a.live q ≡ false → can_run a.live (if b then record q { readiness = readied q.readiness } else q) ≡ false
    runs_same true q o = o
    runs_same false q o = o

    leaves_same : (b : Bool) (q : Pod) → can_leave a.live q ≡ false → can_leave a.live (if b then record q { readiness = readied q.readiness } else q) ≡ false
    leaves_same true q o = by q.readiness refl
      where
        by : (r : Readiness) → q.readiness ≡ r → (is_draining_now (readied q.readiness) && is_empty (placed_in (is_at q.number) a.live)) ≡ false
        by readiness.Starting e = rw e refl
        by readiness.Ready e = rw e refl
        by readiness.Draining e = rw e (rw e at o)
    leaves_same false q o = o

-- ---- a pod that goes

seats-gone : (p : ℕ) (live : List Request) (all : List Pod) → map (seat_of live) (but p all) ≡ without_pod p (with_pod_changed p (λ pod. record pod { draining = true }) (map (seat_of live) all))
seats-gone p live [] = refl
seats-gone p live (q ∷ all) = by (p == q.number) refl (seats-gone p live all)
  where
    rest : List seat.Pod
    rest = with_pod_changed p (λ pod. record pod { draining = true }) (map (seat_of live) all)

    by : (b : Bool) → (p == q.number) ≡ b → map (seat_of live) (but p all) ≡ without_pod p rest
        → map (seat_of live) (cond (not b) (q ∷ but p all) (but p all)) ≡ without_pod p ((if q.number == p then record (seat_of live q) { draining = true } else seat_of live q) ∷ rest)
    by true e same = rw (eq-sym q.number p, e, eq-sym q.number p, e) same
    by false e same = rw (eq-sym q.number p, e, eq-sym q.number p, e, same) refl

cands-gone : (p : ℕ) (live : List Request) (all : List Pod) → candidates_in live (but p all) ≡ filter (λ (k : Cand). not (k.pod == p)) (candidates_in live all)
unfolding candidates_in
cands-gone p live [] = refl
cands-gone p live (q ∷ all) = by (p == q.number) refl (is_ready_now q.readiness) refl (cands-gone p live all)
  where
    old : List Pod
    old = filter (λ (q : Pod). is_ready_now q.readiness) all

    new : List Pod
    new = filter (λ (q : Pod). is_ready_now q.readiness) (but p all)

    by : (m : Bool) → (p == q.number) ≡ m → (b : Bool) → is_ready_now q.readiness ≡ b → map (candidate_of live) new ≡ filter (λ (k : Cand). not (k.pod == p)) (map (candidate_of live) old)
        → map (candidate_of live) (filter (λ (q : Pod). is_ready_now q.readiness) (cond (not m) (q ∷ but p all) (but p all))) ≡ filter (λ (k : Cand). not (k.pod == p)) (map (candidate_of live) (cond b (q ∷ old) old))
    by true e true f rest = rw (eq-sym q.number p, e) rest
    by true e false f rest = rest
    by false e true f rest = rw (f, eq-sym q.number p, e, rest) refl
    by false e false f rest = rw f rest

length-but : (p : ℕ) (all : List Pod) → length (but p all) ≤ length all
length-but p [] = omega arith
length-but p (q ∷ all) = by (p == q.number) (length-but p all)
  where
    by : (b : Bool) → length (but p all) ≤ length all → length (cond (not b) (q ∷ but p all) (but p all)) ≤ length (q ∷ all)
    by true h = omega arith
    by false h = omega arith

pub kept_gone : (s : Spec) (a : Admission) (b d : breaker.State) (t u : seats.State) (k l : List Cand) (p : policy.State) (run leave : Touched) (m c : ℕ) → IsKept s a b t k p run leave
    → IsInOrder (record a { pods = but m a.pods })
    → u ≡ record t { pods = without_pod m (with_pod_changed m (λ pod. record pod { draining = true }) t.pods) } → requests_at_all u.pods ≡ requests_at_all t.pods
    → l ≡ filter (λ (x : Cand). not (x.pod == m)) k → c ≡ capacity_of s.slots.max l → d ≡ record b { capacity = c }
    → IsKept s (record a { pods = but m a.pods }) d u l p (one_less m run) (one_less m leave)
kept_gone s a b d t u k l p run leave m c h order e count f g w =
    let sound = h.sound in
    let few = sound.few_pods in
    let less = length-but m a.pods in
    let are : l ≡ candidates_in a.live (but m a.pods) = f ∙ ap (λ (x : List Cand). filter (λ (y : Cand). not (y.pod == m)) x) h.candidates ∙ sym (cands-gone m a.live a.pods) in
    record {
      sound = record { order = order; few = sound.few; few_pods = omega arith; turn = sound.turn; assignments = sound.assignments; arrivals = sound.arrivals };
      breaker = breaker_set s b d c a.live a.pods (but m a.pods) l h.breaker w g are;
      seats = e ∙ ap (λ (x : seats.State). record x { pods = without_pod m (with_pod_changed m (λ pod. record pod { draining = true }) x.pods) }) h.seats ∙ rw (seats-gone m a.live a.pods) refl;
      placed = rw count h.placed;
      candidates = are;
      policy = h.policy;
      runs = covers_gone m (can_run a.live) a.pods run h.runs;
      leaves = covers_gone m (can_leave a.live) a.pods leave h.leaves;
    }

-- a pod that was just told to drain drains, and has the requests that it had
pub drained_seat : (t u : seats.State) (live : List Request) (all : List Pod) (m : ℕ) → t ≡ seats_in live all → contains m (pod_numbers all) ≡ true → placed_in (is_at m) live ≡ [] → u ≡ seats.change m (λ pod. record pod { draining = true }) t
    → ((pod_at m u.pods).draining ≡ true) × (requests_at (pod_at m u.pods) ≡ 0)
drained_seat t u live all m e there none f = rw (f, e) (at_pod all there)
  where
    idle : IsIdleAt m live
    idle = idle_at m live none

    at_pod : (all : List Pod) → contains m (pod_numbers all) ≡ true
        → ((pod_at m (with_pod_changed m (λ pod. record pod { draining = true }) (map (seat_of live) all))).draining ≡ true) × (requests_at (pod_at m (with_pod_changed m (λ pod. record pod { draining = true }) (map (seat_of live) all))) ≡ 0)
    at_pod [] h = absurd (cc)
    at_pod (q ∷ all) h = by (q.number == m) refl h (λ e. at_pod all e)
      where
        by : (b : Bool) → (q.number == m) ≡ b → (b || contains m (pod_numbers all)) ≡ true
            → (contains m (pod_numbers all) ≡ true → ((pod_at m (with_pod_changed m (λ pod. record pod { draining = true }) (map (seat_of live) all))).draining ≡ true) × (requests_at (pod_at m (with_pod_changed m (λ pod. record pod { draining = true }) (map (seat_of live) all))) ≡ 0))
            → ((pod_at m (with_pod_changed m (λ pod. record pod { draining = true }) (map (seat_of live) (q ∷ all)))).draining ≡ true) × (requests_at (pod_at m (with_pod_changed m (λ pod. record pod { draining = true }) (map (seat_of live) (q ∷ all)))) ≡ 0)
        by true e h rest = let same : q.number ≡ m = eqb-true q.number m e in let runs = idle.runs in let queues = idle.queues in rw (e, e, same, runs, queues) (refl, refl)
        by false e h rest = rw (e, e) (rest h)

drained_same : (m : ℕ) (live : List Request) (all : List Pod) → has_pod m (with_pod_changed m (λ pod. record pod { draining = true }) (map (seat_of live) all)) ≡ contains m (pod_numbers all)
drained_same m live [] = refl
drained_same m live (q ∷ all) = rw (drained_same m live all) (by (q.number == m))
  where
    by : (b : Bool) → (((if b then record (seat_of live q) { draining = true } else seat_of live q).number == m) || contains m (pod_numbers all)) ≡ ((q.number == m) || contains m (pod_numbers all))
    by true = refl
    by false = refl

pub drained_there : (t u : seats.State) (live : List Request) (all : List Pod) (m : ℕ) → t ≡ seats_in live all → contains m (pod_numbers all) ≡ true → u ≡ seats.change m (λ pod. record pod { draining = true }) t → has_pod m u.pods ≡ true
drained_there t u live all m e there f = rw (f, e, drained_same m live all) there

-- ---- a new throttler

pub kept_new : (s : Spec) (live : List Request) (all : List Pod) (b : breaker.State) (t : seats.State) (k : List Cand) (p : policy.State) → live ≡ [] → all ≡ [] → t ≡ record { pods = []; pod_room = 20500; request_room = 20000 } → k ≡ []
    → b ≡ record { depth = s.slots.depth; max = s.slots.max; in_flight = 0; running = 0; capacity = 0 } → p ≡ policy_at s.cc s.slots.seed 0 0
    → IsKept s (record { arrivals = 0; live = live; created = 0; pods = all; assignments = 0; robin = p.place; turn = 0 }) b t k p Nowhere Nowhere
unfolding capacity_in candidates_in policy_at
kept_new s live all b t k p e f g h i j = rw (e, f, g, h, i, j) (record {
  sound = record {
    order = record { live = λ i j d l w. absurd (omega arith); arrived = λ k d w. absurd (omega arith); pods = λ i j d l w. absurd (omega arith); created = λ k d w. absurd (omega arith); homes = λ k d w. absurd (omega arith) };
    few = omega arith;
    few_pods = omega arith;
    turn = omega arith;
    assignments = omega arith;
    arrivals = omega arith;
  };
  breaker = let none : 0 ≡ min s.slots.max 0 = omega arith in rw (← none) refl;
  seats = refl;
  placed = refl;
  candidates = refl;
  policy = refl;
  runs = record { others = λ k d w. absurd (omega arith); named = tt };
  leaves = record { others = λ k d w. absurd (omega arith); named = tt };
})
