-- What a trace comes to, in one record, and what one more entry changes of it: all that a throttler needs of the trace.
use Rattle.std.specs.Prelude.{ℕ, Bool, true, false, not, ◌+◌, ◌==◌, List, [], ◌∷◌, ◌++◌, map, length, nat_lt, min, Option, None, Some, if◌then◌else◌}
use Rattle.std.specs.Bool.{then_some}
use Rattle.std.specs.List.{filter, filter_map, position_or_len, sum_by}
use Rattle.kn_event.specs.declared.entry.Entry.{Entry}
use Rattle.kn_event.specs.declared.entry.Row.{Row}
use Rattle.kn_event.specs.declared.entry.Row.TheVariants as row
use Rattle.kn_event.specs.declared.revision.Spec.{Spec}
use Rattle.kn_event.specs.Lists.{contains}
use Rattle.kn_trace.specs.declared.candidate.Cand.{Cand}
use Rattle.kn_trace.specs.Rows.{arrived_by, assigned_by, taken_by, turned_by, created_by, readied_by, drained_by, gone_by}
use Rattle.kn_trace.specs.Trace.{Trace, each_row, arrivals, created, direct_turn, assigned, ended, has_run, limit_of, live, pod_of}
use Rattle.kn_trace.specs.Capacity.{seats_of}
use Rattle.kn_trace.specs.Choice.{assignment_count, chosen_pod, round_robin_place}
use Rattle.kn_record.specs.declared.admission.Place.{Place}
use Rattle.kn_record.specs.declared.admission.Place.TheVariants as place
use Rattle.kn_record.specs.declared.admission.Request.{Request}
use Rattle.kn_record.specs.declared.admission.Readiness.{Readiness}
use Rattle.kn_record.specs.declared.admission.Readiness.TheVariants as readiness
use Rattle.kn_record.specs.declared.admission.Pod.{Pod}

pub record Admission : Type 0 where
  pub arrivals : ℕ  -- the number of the next request
  pub live : List Request  -- in the order of their numbers
  pub created : ℕ  -- the number of the next pod
  pub pods : List Pod  -- in the order of their numbers
  pub assignments : ℕ  -- how many there were
  pub robin : ℕ  -- the place of the round robin
  pub turn : ℕ  -- turns of the requests that go past the activator

-- ---- of a whole trace

-- where a request is that came to no pod, or to this one: it runs once it was assigned, or from its run entry on
abbrev pub place_at : Option ℕ → Bool → Bool → Place
place_at None assigned run = place.Held
place_at (Some p) true run = place.Running p true
place_at (Some p) false true = place.Running p false
place_at (Some p) false false = place.Queued p

unfoldable pub place_of : Trace → ℕ → Place
place_of c r = place_at (pod_of c r) (assigned c r) (has_run c r)

-- the request that an entry of this time takes in, if it is live
unfoldable pub request_of : Trace → ℕ → Option ℕ → Option Request
request_of c t None = None
request_of c t (Some r) = then_some (not (ended c r)) (record { number = r; time = t; place = place_of c r })

unfoldable pub live_requests : Trace → List Request
live_requests c = filter_map (λ (e : Entry). request_of c e.time (taken_by e.row)) c

abbrev pub readiness_by : Bool → Bool → Readiness
readiness_by true readied = readiness.Draining
readiness_by false true = readiness.Ready
readiness_by false false = readiness.Starting

unfoldable pub readiness_of : Trace → ℕ → Readiness
readiness_of c p = readiness_by (contains p (each_row drained_by c)) (contains p (each_row readied_by c))

-- the pod that an entry creates, if it is live
unfoldable pub pod_record : Trace → Option ℕ → Option Pod
pod_record c None = None
pod_record c (Some p) = then_some (not (contains p (each_row gone_by c))) (record { number = p; limit = limit_of c p; readiness = readiness_of c p })

unfoldable pub pods : Trace → List Pod
pods c = filter_map (λ (e : Entry). pod_record c (created_by e.row)) c

unfoldable pub admission : Trace → Admission
admission c = record {
  arrivals = arrivals c;
  live = live_requests c;
  created = created c;
  pods = pods c;
  assignments = assignment_count c;
  robin = round_robin_place c;
  turn = direct_turn c;
}

-- before the first entry
abbrev pub nothing_yet : Admission
nothing_yet = record { arrivals = 0; live = []; created = 0; pods = []; assignments = 0; robin = 0; turn = 0 }

-- ---- by one more entry

abbrev pub without : ℕ → List Request → List Request
without r live = filter (λ q. not (r == q.number)) live

abbrev pub moved_to : ℕ → Place → Request → Request
moved_to r where_to q = if r == q.number then record q { place = where_to } else q

-- request r is there now
abbrev pub moved : ℕ → Place → List Request → List Request
moved r where_to live = map (moved_to r where_to) live

abbrev pub begun : Place → Place
begun place.Held = place.Held
begun (place.Queued p) = place.Running p false
begun (place.Running p x) = place.Running p x

abbrev pub begun_at : ℕ → Request → Request
begun_at r q = if r == q.number then record q { place = begun q.place } else q

-- request r runs now
abbrev pub begins : ℕ → List Request → List Request
begins r live = map (begun_at r) live

abbrev pub live_after : ℕ → Row → List Request → List Request
live_after t (row.Admit r tag) live = live ++ record { number = r; time = t; place = place.Held } ∷ []
live_after t (row.Direct r p) live = live ++ record { number = r; time = t; place = place.Queued p } ∷ []
live_after t (row.Assign r p) live = moved r (place.Running p true) live
live_after t (row.Run r) live = begins r live
live_after t (row.Finish r ok) live = without r live
live_after t (row.Expire r) live = without r live
live_after t (row.Cancel r) live = without r live
live_after t (row.LostRequest r) live = without r live
live_after t _ live = live

abbrev pub limited : ℕ → ℕ → Pod → Pod
limited p n q = if p == q.number then record q { limit = n } else q

abbrev pub with_limit : ℕ → ℕ → List Pod → List Pod
with_limit p n all = map (limited p n) all

-- a draining pod stays so
abbrev pub readied : Readiness → Readiness
readied readiness.Draining = readiness.Draining
readied _ = readiness.Ready

abbrev pub drained : Readiness → Readiness
drained _ = readiness.Draining

abbrev pub marked : ℕ → (Readiness → Readiness) → Pod → Pod
marked p f q = if p == q.number then record q { readiness = f q.readiness } else q

abbrev pub with_readiness : ℕ → (Readiness → Readiness) → List Pod → List Pod
with_readiness p f all = map (marked p f) all

abbrev pub pods_after : Row → List Pod → List Pod
pods_after (row.Create p n) all = all ++ record { number = p; limit = n; readiness = readiness.Starting } ∷ []
pods_after (row.Limit p n) all = with_limit p n all
pods_after (row.Ready p) all = with_readiness p readied all
pods_after (row.Drain p) all = with_readiness p drained all
pods_after (row.Remove p) all = filter (λ q. not (p == q.number)) all
pods_after (row.LostPod p) all = filter (λ q. not (p == q.number)) all
pods_after _ all = all

abbrev pub is_ready_now : Readiness → Bool
is_ready_now readiness.Ready = true
is_ready_now _ = false

abbrev pub is_starting_now : Readiness → Bool
is_starting_now readiness.Starting = true
is_starting_now _ = false

abbrev pub is_draining_now : Readiness → Bool
is_draining_now readiness.Draining = true
is_draining_now _ = false

-- the pods whose readiness passes the test
abbrev pub pods_in : (Readiness → Bool) → List Pod → List ℕ
pods_in test all = map (λ q. q.number) (filter (λ q. test q.readiness) all)

abbrev pub robin_after : Row → List Pod → ℕ → ℕ
robin_after (row.Assign r p) all robin = position_or_len (λ q. q == p) (pods_in is_ready_now all) + 1
robin_after _ all robin = robin

-- one more where the row says it
abbrev pub more_by : {X : Type 0} → Option X → ℕ → ℕ
more_by None n = n
more_by (Some x) n = n + 1

-- the record after an entry of this time with this row
unfoldable pub stepped : ℕ → Row → Admission → Admission
stepped t x a = record {
  arrivals = more_by (arrived_by x) a.arrivals;
  live = live_after t x a.live;
  created = more_by (created_by x) a.created;
  pods = pods_after x a.pods;
  assignments = more_by (assigned_by x) a.assignments;
  robin = robin_after x a.pods a.robin;
  turn = more_by (turned_by x) a.turn;
}

-- ---- the views of requests, by their place

abbrev pub is_held_place : Place → Bool
is_held_place place.Held = true
is_held_place _ = false

abbrev pub is_at : ℕ → Place → Bool
is_at p place.Held = false
is_at p (place.Queued q) = q == p
is_at p (place.Running q x) = q == p

abbrev pub runs_at : ℕ → Place → Bool
runs_at p (place.Running q x) = q == p
runs_at p _ = false

abbrev pub queues_at : ℕ → Place → Bool
queues_at p (place.Queued q) = q == p
queues_at p _ = false

-- it was assigned
abbrev pub is_assigned_place : Place → Bool
is_assigned_place (place.Running q x) = x
is_assigned_place _ = false

abbrev pub runs_somewhere : Place → Bool
runs_somewhere (place.Running q x) = true
runs_somewhere _ = false

abbrev pub waits : Place → Bool
waits x = not (runs_somewhere x)

-- it came through the activator
abbrev pub is_through : Place → Bool
is_through place.Held = true
is_through (place.Queued q) = false
is_through (place.Running q x) = x

-- the live requests whose place passes the test
unfoldable pub placed : (Place → Bool) → Trace → List ℕ
placed test c = filter (λ r. test (place_of c r)) (live c)

-- the same of the record
abbrev pub placed_in : (Place → Bool) → List Request → List ℕ
placed_in test live = map (λ q. q.number) (filter (λ q. test q.place) live)

-- ---- the next assignment, of the record

abbrev pub candidate_of : List Request → Pod → Cand
candidate_of live q = record { pod = q.number; limit = q.limit; running = length (placed_in (runs_at q.number) live) }

unfoldable pub candidates_in : List Request → List Pod → List Cand
candidates_in live all = map (candidate_of live) (filter (λ (q : Pod). is_ready_now q.readiness) all)

unfoldable pub capacity_in : ℕ → List Pod → ℕ
capacity_in most all = min most (sum_by (λ (q : Pod). seats_of most q.limit) (filter (λ (q : Pod). is_ready_now q.readiness) all))

unfoldable pub next_in : Spec → Admission → Option ℕ
next_in s a =
    if nat_lt (length (placed_in is_assigned_place a.live)) (capacity_in s.slots.max a.pods)
    then chosen_pod s.cc s.slots.seed a.robin a.assignments (candidates_in a.live a.pods) else None
