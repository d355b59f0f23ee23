-- What a throttler keeps beside the record, and how each part follows from it.
use Rattle.std.specs.Prelude.{◌≡◌, ℕ, ◌+◌, ◌^◌, ◌≤◌, Bool, not, ◌&&◌, List, length, map}
use Rattle.kn_event.specs.declared.revision.Spec.{Spec}
use Rattle.kn_trace.specs.declared.candidate.Cand.{Cand}
use Rattle.kn_trace.specs.Trace.{is_empty}
use Rattle.kn_trace.specs.Events.{live_most}
use Rattle.kn_breaker.specs.Breaker as breaker
use Rattle.kn_seats.specs.Seats as seats
use Rattle.kn_seats.specs.Pods.{requests_at_all}
use Rattle.kn_seats.specs.Pods as seat
use Rattle.kn_policy.specs.Policy as policy
use Rattle.kn_policy.specs.Policy.{policy_at}
use Rattle.kn_record.specs.declared.admission.Place.{Place}
use Rattle.kn_record.specs.declared.admission.Request.{Request}
use Rattle.kn_record.specs.declared.admission.Pod.{Pod}
use Rattle.kn_record.specs.Admission.{Admission, candidates_in, capacity_in, is_assigned_place, is_at, is_draining_now, is_held_place, is_through, placed_in, queues_at, runs_at}
use Rattle.kn_record.specs.Order.{IsAmong, IsInOrder}
use Rattle.kn_record.specs.Views.{is_free, pod_numbers}
use Rattle.kn_table.specs.Moves.{Leaves}
use Rattle.kn_throttle.specs.declared.touched.Touched.{Touched}
use Rattle.kn_throttle.specs.Touched.{Covers}

-- who is at a pod
abbrev pub seat_of : List Request → Pod → seat.Pod
seat_of live q = record {
  number = q.number;
  limit = q.limit;
  running = length (placed_in (runs_at q.number) live);
  queued = placed_in (queues_at q.number) live;
  draining = is_draining_now q.readiness;
}

-- how many pods there may be
abbrev pub pods_room : ℕ
pods_room = 20500

abbrev pub seats_in : List Request → List Pod → seats.State
seats_in live all = record { pods = map (seat_of live) all; pod_room = pods_room; request_room = live_most }

-- the activator's breaker holds those that came through it, and of them those run that were assigned
abbrev pub breaker_in : Spec → List Request → List Pod → breaker.State
breaker_in s live all = record {
  depth = s.slots.depth;
  max = s.slots.max;
  in_flight = length (placed_in is_through live);
  running = length (placed_in is_assigned_place live);
  capacity = capacity_in s.slots.max all;
}

-- its first queued request may run
abbrev pub can_run : List Request → Pod → Bool
can_run live q = is_free live q && not (is_empty (placed_in (queues_at q.number) live))

-- it drains, and nothing is at it
abbrev pub can_leave : List Request → Pod → Bool
can_leave live q = is_draining_now q.readiness && is_empty (placed_in (is_at q.number) live)

-- the record by itself: it is in order, has room, and each assignment and each turn was some request's
pub record IsSound (a : Admission) : Type 0 where
  pub order : IsInOrder a
  pub few : length a.live ≤ live_most
  pub few_pods : length a.pods ≤ pods_room
  pub turn : a.turn ≤ a.arrivals
  pub assignments : a.assignments + length (placed_in is_held_place a.live) ≤ a.arrivals
  pub arrivals : a.arrivals ≤ 2 ^ 54

-- the parts beside it: breaker, seats, candidates and policy follow from it; pods at which a queued request may run, and those
-- that may leave, are touched
pub record IsKept (s : Spec) (a : Admission) (b : breaker.State) (t : seats.State) (k : List Cand) (p : policy.State) (run leave : Touched) : Type 0 where
  pub sound : IsSound a
  pub breaker : b ≡ breaker_in s a.live a.pods
  pub seats : t ≡ seats_in a.live a.pods
  pub placed : requests_at_all t.pods + length (placed_in is_held_place a.live) ≡ length a.live
  pub candidates : k ≡ candidates_in a.live a.pods
  pub policy : p ≡ policy_at s.cc s.slots.seed a.robin a.assignments
  pub runs : Covers (can_run a.live) a.pods run
  pub leaves : Covers (can_leave a.live) a.pods leave

-- ---- a request that ends

-- request r, which was at this place, is live no more
pub record HasLeft (r : ℕ) (x : Place) (a : Admission) (new : List Request) : Type 0 where
  pub order : IsInOrder (record a { live = new })
  pub len : length new + 1 ≡ length a.live
  pub leaves : Leaves r x a.live new
  pub home : IsAmong (pod_numbers a.pods) x

-- the parts are as some record has them that request r has left since, at this place
pub record AreKeptBefore (r : ℕ) (x : Place) (b : breaker.State) (t : seats.State) (k : List Cand) (run leave : Touched) : Type 0 where
  pub spec : Spec
  pub admission : Admission
  pub policy : policy.State
  pub new : List Request
  pub kept : IsKept spec admission b t k policy run leave
  pub left : HasLeft r x admission new

-- and these are as it has them now
abbrev pub AreKeptAfter : {r : ℕ} {x : Place} {b : breaker.State} {t : seats.State} {k : List Cand} {run leave : Touched} → AreKeptBefore r x b t k run leave
    → breaker.State → seats.State → List Cand → Touched → Touched → Type 0
AreKeptAfter z b t k run leave = IsKept z.spec (record z.admission { live = z.new }) b t k z.policy run leave
