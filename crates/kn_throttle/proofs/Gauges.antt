-- What is counted of the record, by the breaker and the seats.
use Rattle.std.proofs.Common.{◌≡◌, ℕ, ◌+◌, true, List, [], ◌∷◌, length, map, refl, sym, ap, ◌∙◌, arith}
use Rattle.std.specs.Prelude.{sum_by}
use Rattle.std.specs.List.{All}
use Rattle.std.proofs.lemmas.List.Sums.{sum_by-cons}
use Rattle.kn_event.specs.declared.revision.Spec.{Spec}
use Rattle.kn_event.specs.Lists.{contains}
use Rattle.kn_trace.specs.declared.candidate.Cand.{Cand}
use Rattle.kn_trace.specs.Trace.{Trace, limit_of, live_pods, queued_at, running_at}
use Rattle.kn_breaker.specs.Breaker as breaker
use Rattle.kn_seats.specs.Kept.{queued_at_all}
use Rattle.kn_seats.specs.Pods.{pod_at, requests_at_all}
use Rattle.kn_seats.specs.Seats as seats
use Rattle.kn_policy.specs.Policy as policy
use Rattle.kn_record.specs.declared.admission.Pod.{Pod}
use Rattle.kn_record.specs.declared.admission.Request.{Request}
use Rattle.kn_record.specs.Admission.{Admission, is_held_place, placed_in, queues_at, runs_at}
use Rattle.kn_record.specs.Views.{pod_numbers}
use Rattle.kn_throttle.specs.declared.touched.Touched.{Touched}
use Rattle.kn_throttle.specs.Gauges.{count_queued, count_queued_in, count_running, count_running_in, limit_in, limit_where}
use Rattle.kn_throttle.specs.Kept.{IsKept, seat_of}
use Rattle.kn_throttle.proofs.Parts.{pod_of}
use Rattle.kn_throttle.proofs.Same.{through-parts}

-- ---- at one pod

pub limit-seat : (live : List Request) (p : ℕ) (all : List Pod) → contains p (pod_numbers all) ≡ true → (pod_at p (map (seat_of live) all)).limit ≡ limit_in p all
limit-seat live p all there =
    let pod = pod_of live p all there in
    ap (λ q. q.limit) pod.seat ∙ sym (ap limit_where pod.found)

pub running-seat : (live : List Request) (p : ℕ) (all : List Pod) → contains p (pod_numbers all) ≡ true → (pod_at p (map (seat_of live) all)).running ≡ length (placed_in (runs_at p) live)
running-seat live p all there =
    let pod = pod_of live p all there in
    ap (λ q. q.running) pod.seat ∙ ap (λ n. length (placed_in (runs_at n) live)) pod.number

pub limit-trace : (c : Trace) (live : List Request) (p : ℕ) (all : List Pod) → All (λ (q : Pod). limit_of c q.number ≡ q.limit) all → contains p (pod_numbers all) ≡ true → limit_of c p ≡ limit_in p all
limit-trace c live p all limits there =
    let pod = pod_of live p all there in
    sym (ap (limit_of c) pod.number) ∙ (pod.each (λ (q : Pod). limit_of c q.number ≡ q.limit) limits ∙ sym (ap limit_where pod.found))

-- ---- at all pods

total : (f g : Pod → ℕ) (all : List Pod) → ((q : Pod) → f q ≡ g q) → sum_by f all ≡ sum_by g all
total f g [] same = refl
total f g (q ∷ all) same = sum_by-cons f q all ∙ (rw (same q, total f g all same) (sym (sum_by-cons g q all)))

pub queued-seats : (live : List Request) (all : List Pod) → queued_at_all (map (seat_of live) all) ≡ count_queued_in live all
queued-seats live [] = refl
queued-seats live (q ∷ all) =
    sum_by-cons (λ pod. length pod.queued) (seat_of live q) (map (seat_of live) all)
    ∙ (ap (λ n. length (placed_in (queues_at q.number) live) + n) (queued-seats live all) ∙ sym (sum_by-cons (λ (q : Pod). length (placed_in (queues_at q.number) live)) q all))

pub requests-seats : (live : List Request) (all : List Pod) → requests_at_all (map (seat_of live) all) ≡ count_running_in live all + count_queued_in live all
requests-seats live [] = refl
requests-seats live (q ∷ all) =
    let one = sum_by-cons (λ pod. pod.running + length pod.queued) (seat_of live q) (map (seat_of live) all) in
    let runs = sum_by-cons (λ (q : Pod). length (placed_in (runs_at q.number) live)) q all in
    let queued = sum_by-cons (λ (q : Pod). length (placed_in (queues_at q.number) live)) q all in
    omega (arith, one, runs, queued, requests-seats live all)

-- ---- by the trace

by_numbers : (f : ℕ → ℕ) (all : List Pod) → sum_by f (pod_numbers all) ≡ sum_by (λ (q : Pod). f q.number) all
by_numbers f [] = refl
by_numbers f (q ∷ all) = sum_by-cons f q.number (pod_numbers all) ∙ (ap (λ n. f q.number + n) (by_numbers f all) ∙ sym (sum_by-cons (λ (q : Pod). f q.number) q all))

pub queued-trace : (c : Trace) (live : List Request) (all : List Pod) → live_pods c ≡ pod_numbers all → ((p : ℕ) → queued_at c p ≡ placed_in (queues_at p) live) → count_queued c ≡ count_queued_in live all
unfolding count_queued
queued-trace c live all pods queued =
    ap (sum_by (λ p. length (queued_at c p))) pods
    ∙ (by_numbers (λ p. length (queued_at c p)) all ∙ total (λ (q : Pod). length (queued_at c q.number)) (λ (q : Pod). length (placed_in (queues_at q.number) live)) all (λ q. ap length (queued q.number)))

pub running-trace : (c : Trace) (live : List Request) (all : List Pod) → live_pods c ≡ pod_numbers all → ((p : ℕ) → length (running_at c p) ≡ length (placed_in (runs_at p) live)) → count_running c ≡ count_running_in live all
unfolding count_running
running-trace c live all pods running =
    ap (sum_by (λ p. length (running_at c p))) pods
    ∙ (by_numbers (λ p. length (running_at c p)) all ∙ total (λ (q : Pod). length (running_at c q.number)) (λ (q : Pod). length (placed_in (runs_at q.number) live)) all (λ q. running q.number))

-- ---- by what is kept

module _ (s : Spec) (a : Admission) (b : breaker.State) (t : seats.State) (k : List Cand) (p : policy.State) (run leave : Touched) (kept : IsKept s a b t k p run leave) where
  -- those in the breaker that don't run are held
  pub held-kept : (n : ℕ) → n + b.running ≡ b.in_flight → n ≡ length (placed_in is_held_place a.live)
  held-kept n h =
      let through = ap (λ (x : breaker.State). x.in_flight) kept.breaker in
      let running = ap (λ (x : breaker.State). x.running) kept.breaker in
      omega (arith, h, through, running, through-parts a.live)

  pub queued-kept : queued_at_all t.pods ≡ count_queued_in a.live a.pods
  queued-kept = ap (λ (x : seats.State). queued_at_all x.pods) kept.seats ∙ queued-seats a.live a.pods

  -- each live request is held, queued or runs
  pub all-kept : length a.live ≡ length (placed_in is_held_place a.live) + (count_running_in a.live a.pods + count_queued_in a.live a.pods)
  all-kept =
      let at_pods = ap (λ (x : seats.State). requests_at_all x.pods) kept.seats ∙ requests-seats a.live a.pods in
      omega (arith, at_pods, kept.placed)
