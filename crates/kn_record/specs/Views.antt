-- Each view of a trace, of the record that stands for it; and each view of requests by their place.
use Rattle.std.specs.Prelude.{◌≡◌, ℕ, Bool, true, false, not, ◌+◌, ◌*◌, ◌&&◌, ◌||◌, ◌==◌, nat_lt, nat_le, List, map, length, Option, None, Some, if◌then◌else◌}
use Rattle.std.specs.List.{All, filter, find}
use Rattle.kn_event.specs.declared.event.Stand.{Stand}
use Rattle.kn_event.specs.declared.event.Stand.TheVariants as stand
use Rattle.kn_event.specs.declared.revision.Spec.{Spec}
use Rattle.kn_event.specs.Lists.{contains}
use Rattle.kn_trace.specs.Trace.{Trace, arrivals, at_pod, created, direct_turn, draining, has_free_seat, held, in_breaker, is_running, is_starting, limit_of, live, live_pods, next_starting, proxied, queued_at, ready_pods, running_at, stand_of, starting_pods, waiting}
use Rattle.kn_trace.specs.Capacity.{breaker_full, capacity, in_use, pod_full}
use Rattle.kn_trace.specs.Choice.{assignment_count, candidates, round_robin_place}
use Rattle.kn_trace.specs.Settling.{next_choice}
use Rattle.kn_trace.specs.Events.{due}
use Rattle.kn_record.specs.declared.admission.Place.{Place}
use Rattle.kn_record.specs.declared.admission.Place.TheVariants as place
use Rattle.kn_record.specs.declared.admission.Request.{Request}
use Rattle.kn_record.specs.declared.admission.Pod.{Pod}
use Rattle.kn_record.specs.Admission.{Admission, candidates_in, capacity_in, is_assigned_place, is_at, is_draining_now, is_held_place, is_ready_now, is_starting_now, is_through, next_in, placed, placed_in, pods_in, queues_at, runs_at, runs_somewhere, waits}

-- the views in their own words are the live requests whose place passes a test. What waits is in the order of arrival, in
-- both; who is at a pod came there in an order of its own, so those are the same requests, and as many
pub record AreByPlace (c : Trace) : Type 0 where
  pub held : held c ≡ placed is_held_place c
  pub waiting : waiting c ≡ placed waits c
  pub in_breaker : in_breaker c ≡ placed is_through c
  pub queued : (p : ℕ) → queued_at c p ≡ placed (queues_at p) c
  pub is_at_pod : (p r : ℕ) → contains r (at_pod c p) ≡ contains r (placed (is_at p) c)
  pub count_at_pod : (p : ℕ) → length (at_pod c p) ≡ length (placed (is_at p) c)
  pub is_running_at : (p r : ℕ) → contains r (running_at c p) ≡ contains r (placed (runs_at p) c)
  pub count_running_at : (p : ℕ) → length (running_at c p) ≡ length (placed (runs_at p) c)
  pub in_use : in_use c ≡ length (placed is_assigned_place c)
  pub is_running : (r : ℕ) → is_running c r ≡ contains r (placed runs_somewhere c)

-- a view without request r
abbrev pub others : ℕ → List ℕ → List ℕ
others r xs = filter (λ q. not (r == q)) xs

-- ---- of the record

abbrev pub numbers_in : List Request → List ℕ
numbers_in live = map (λ q. q.number) live

abbrev pub pod_numbers : List Pod → List ℕ
pod_numbers all = map (λ q. q.number) all

abbrev pub is_due : ℕ → ℕ → Request → Bool
is_due timeout t q = waits q.place && nat_le (q.time + timeout) t

-- the waiting requests whose timeout is over
abbrev pub due_in : ℕ → ℕ → List Request → List ℕ
due_in timeout t live = map (λ q. q.number) (filter (is_due timeout t) live)

abbrev pub stand_of_place : Place → Stand
stand_of_place place.Held = stand.Held
stand_of_place (place.Queued p) = stand.Queued p
stand_of_place (place.Running p x) = stand.Running p

abbrev pub stand_found : Option Request → Stand
stand_found None = stand.Ended
stand_found (Some q) = stand_of_place q.place

abbrev pub stand_in : Admission → ℕ → Stand
stand_in a r = if nat_lt r a.arrivals then stand_found (find (λ (q : Request). q.number == r) a.live) else stand.Unknown

abbrev pub is_free : List Request → Pod → Bool
is_free live q = q.limit == 0 || nat_lt (length (placed_in (runs_at q.number) live)) q.limit

abbrev pub is_full : List Request → Pod → Bool
is_full live q = nat_lt 0 q.limit && nat_le (11 * q.limit) (length (placed_in (is_at q.number) live))

-- the live pod of this number
abbrev pub pod_numbered : ℕ → List Pod → Option Pod
pod_numbered p all = find (λ (q : Pod). q.number == p) all

-- there is a pod, and it passes the test
abbrev pub is_pod_where : (Pod → Bool) → Option Pod → Bool
is_pod_where test None = false
is_pod_where test (Some q) = test q

-- the live pod p has no limit, or fewer run there than it
abbrev pub has_free_seat_in : Admission → ℕ → Bool
has_free_seat_in a p = is_pod_where (is_free a.live) (pod_numbered p a.pods)

-- the live pod p takes no further request
abbrev pub is_full_in : Admission → ℕ → Bool
is_full_in a p = is_pod_where (is_full a.live) (pod_numbered p a.pods)

-- each view of the trace c, of the record a
pub record AreViews (s : Spec) (a : Admission) (c : Trace) : Type 0 where
  pub arrivals : arrivals c ≡ a.arrivals
  pub turn : direct_turn c ≡ a.turn
  pub live : live c ≡ numbers_in a.live
  pub held : held c ≡ placed_in is_held_place a.live
  pub waiting : waiting c ≡ placed_in waits a.live
  pub in_breaker : in_breaker c ≡ placed_in is_through a.live
  pub full : breaker_full s c ≡ (length (placed_in is_through a.live) == s.slots.depth + s.slots.max)
  pub queued : (p : ℕ) → queued_at c p ≡ placed_in (queues_at p) a.live
  pub is_at_pod : (p r : ℕ) → contains r (at_pod c p) ≡ contains r (placed_in (is_at p) a.live)
  pub count_at_pod : (p : ℕ) → length (at_pod c p) ≡ length (placed_in (is_at p) a.live)
  pub is_running_at : (p r : ℕ) → contains r (running_at c p) ≡ contains r (placed_in (runs_at p) a.live)
  pub count_running_at : (p : ℕ) → length (running_at c p) ≡ length (placed_in (runs_at p) a.live)
  pub in_use : in_use c ≡ length (placed_in is_assigned_place a.live)
  pub is_running : (r : ℕ) → is_running c r ≡ contains r (placed_in runs_somewhere a.live)
  pub proxied : (r : ℕ) → proxied c r ≡ contains r (placed_in is_assigned_place a.live)
  pub due : (t : ℕ) → due s t c ≡ due_in s.timeout_ms t a.live
  pub stand : (r : ℕ) → stand_of c r ≡ stand_in a r
  pub created : created c ≡ a.created
  pub pods : live_pods c ≡ pod_numbers a.pods
  pub starting : starting_pods c ≡ pods_in is_starting_now a.pods
  pub is_starting : (p : ℕ) → contains p (live_pods c) ≡ true → is_starting c p ≡ contains p (pods_in is_starting_now a.pods)
  pub next_starting : (from : ℕ) → next_starting c from ≡ find (λ p. nat_le from p) (pods_in is_starting_now a.pods)
  pub ready : ready_pods c ≡ pods_in is_ready_now a.pods
  pub draining : draining c ≡ pods_in is_draining_now a.pods
  pub limits : All (λ (q : Pod). limit_of c q.number ≡ q.limit) a.pods
  pub free_at : (p : ℕ) → contains p (pod_numbers a.pods) ≡ true → has_free_seat c p ≡ has_free_seat_in a p
  pub full_at : (p : ℕ) → contains p (pod_numbers a.pods) ≡ true → pod_full c p ≡ is_full_in a p
  pub free : All (λ (q : Pod). has_free_seat c q.number ≡ is_free a.live q) a.pods
  pub pod_full : All (λ (q : Pod). pod_full c q.number ≡ is_full a.live q) a.pods
  pub assignments : assignment_count c ≡ a.assignments
  pub robin : round_robin_place c ≡ a.robin
  pub candidates : candidates c ≡ candidates_in a.live a.pods
  pub capacity : capacity s c ≡ capacity_in s.slots.max a.pods
  pub next : next_choice s c ≡ next_in s a
