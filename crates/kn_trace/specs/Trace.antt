-- What a trace says. A trace is the list of all entries so far, and each view reads the whole of it.
use Rattle.std.specs.Prelude.{ℕ, Bool, true, false, not, ◌&&◌, ◌||◌, ◌==◌, nat_le, nat_lt, List, [], ◌∷◌, length, Option, None, Some, unwrap_or}
use Rattle.std.specs.List.{filter, filter_map, find}
use Rattle.kn_event.specs.declared.entry.Entry.{Entry}
use Rattle.kn_event.specs.declared.entry.Row.{Row}
use Rattle.kn_event.specs.declared.event.Stand.{Stand}
use Rattle.kn_event.specs.declared.event.Stand.TheVariants as stand
use Rattle.kn_event.specs.Lists.{contains}
use Rattle.kn_trace.specs.Rows.{arrived_by, admitted_by, taken_by, assigned_by, run_by, ended_by, brought_to, pod_by, turned_by, created_by, readied_by, drained_by, gone_by, limit_by}

abbrev pub Trace : Type 0
Trace = List Entry

abbrev pub entry : ℕ → Row → Entry
entry time row = record { time = time; row = row }

-- what the rows of one kind say, in the order of their entries
abbrev pub each_row : {X : Type 0} → (Row → Option X) → Trace → List X
each_row said c = filter_map (λ e. said e.row) c

abbrev pub first_of : {X : Type 0} → List X → Option X
first_of [] = None
first_of (x ∷ xs) = Some x

abbrev pub last_of : {X : Type 0} → List X → Option X
last_of [] = None
last_of (x ∷ xs) = Some (unwrap_or (last_of xs) x)

abbrev pub is_empty : {X : Type 0} → List X → Bool
is_empty [] = true
is_empty (x ∷ xs) = false

-- ---- requests, by their numbers. Those that arrived, were taken in or were admitted are listed in the order of arrival, which is
-- that of their numbers; those at a pod in the order in which they came there

-- how many requests have arrived, which is the number of the next one
unfoldable pub arrivals : Trace → ℕ
arrivals c = length (each_row arrived_by c)

unfoldable pub ended : Trace → ℕ → Bool
ended c r = contains r (each_row ended_by c)

unfoldable pub assigned : Trace → ℕ → Bool
assigned c r = contains r (each_row assigned_by c)

-- it has a run entry
unfoldable pub has_run : Trace → ℕ → Bool
has_run c r = contains r (each_row run_by c)

-- taken in, and not ended
unfoldable pub live : Trace → List ℕ
live c = filter (λ r. not (ended c r)) (each_row taken_by c)

-- admitted and not ended: those in the activator's breaker
unfoldable pub in_breaker : Trace → List ℕ
in_breaker c = filter (λ r. not (ended c r)) (each_row admitted_by c)

unfoldable pub is_held : Trace → ℕ → Bool
is_held c r = not (assigned c r) && not (ended c r)

-- admitted, without an assignment and not ended
unfoldable pub held : Trace → List ℕ
held c = filter (is_held c) (each_row admitted_by c)

-- assigned or sent straight to pod p, and not ended
unfoldable pub at_pod : Trace → ℕ → List ℕ
at_pod c p = filter (λ r. not (ended c r)) (each_row (brought_to p) c)

-- an assigned request runs from its assignment on, a direct one from its run entry on
unfoldable pub has_begun : Trace → ℕ → Bool
has_begun c r = assigned c r || has_run c r

unfoldable pub is_running : Trace → ℕ → Bool
is_running c r = has_begun c r && not (ended c r)

-- those at pod p that run
unfoldable pub running_at : Trace → ℕ → List ℕ
running_at c p = filter (is_running c) (each_row (brought_to p) c)

unfoldable pub has_not_begun : Trace → ℕ → Bool
has_not_begun c r = not (has_begun c r) && not (ended c r)

-- the others at pod p
unfoldable pub queued_at : Trace → ℕ → List ℕ
queued_at c p = filter (has_not_begun c) (each_row (brought_to p) c)

-- held, or queued at a pod: taken in, neither begun nor ended
unfoldable pub waiting : Trace → List ℕ
waiting c = filter (has_not_begun c) (each_row taken_by c)

-- how many turns the requests have had that go past the activator
unfoldable pub direct_turn : Trace → ℕ
direct_turn c = length (each_row turned_by c)

-- the pod that a request was assigned or sent straight to, in the last such entry
unfoldable pub pod_of : Trace → ℕ → Option ℕ
pod_of c r = last_of (each_row (pod_by r) c)

abbrev pub stand_at : Bool → Option ℕ → Stand
stand_at begun None = stand.Held
stand_at true (Some p) = stand.Running p
stand_at false (Some p) = stand.Queued p

abbrev pub stand_of_arrived : Bool → Bool → Option ℕ → Stand
stand_of_arrived false begun p = stand.Ended
stand_of_arrived true begun p = stand_at begun p

abbrev pub stand_where : Bool → Stand → Stand
stand_where false known = stand.Unknown
stand_where true known = known

-- where a request stands; one that was refused has ended
unfoldable pub stand_of : Trace → ℕ → Stand
stand_of c r = stand_where (nat_lt r (arrivals c)) (stand_of_arrived (contains r (live c)) (has_begun c r) (pod_of c r))

-- came through the activator to a pod, and has not ended
unfoldable pub proxied : Trace → ℕ → Bool
proxied c r = assigned c r && not (ended c r)

-- ---- pods, by their numbers and in the order of their entries, which is the order of their numbers

-- how many pods were created, which is the number of the next one
unfoldable pub created : Trace → ℕ
created c = length (each_row created_by c)

unfoldable pub is_live_pod : Trace → ℕ → Bool
is_live_pod c p = not (contains p (each_row gone_by c))

-- created, and neither removed nor lost
unfoldable pub live_pods : Trace → List ℕ
live_pods c = filter (is_live_pod c) (each_row created_by c)

-- not ready yet, nor drained, nor gone
unfoldable pub is_starting : Trace → ℕ → Bool
is_starting c p = not (contains p (each_row readied_by c)) && not (contains p (each_row drained_by c)) && is_live_pod c p

unfoldable pub starting_pods : Trace → List ℕ
starting_pods c = filter (is_starting c) (each_row created_by c)

-- the least Starting pod that is not below this number
unfoldable pub next_starting : Trace → ℕ → Option ℕ
next_starting c from = find (λ p. nat_le from p) (starting_pods c)

unfoldable pub is_ready : Trace → ℕ → Bool
is_ready c p = contains p (each_row readied_by c) && not (contains p (each_row drained_by c)) && is_live_pod c p

-- ready, and neither drained nor gone
unfoldable pub ready_pods : Trace → List ℕ
ready_pods c = filter (is_ready c) (each_row created_by c)

unfoldable pub is_draining : Trace → ℕ → Bool
is_draining c p = contains p (each_row drained_by c) && is_live_pod c p

-- drained, and not gone
unfoldable pub draining : Trace → List ℕ
draining c = filter (is_draining c) (each_row created_by c)

-- the number in the last create or limit entry of pod p; 0 is no limit
unfoldable pub limit_of : Trace → ℕ → ℕ
limit_of c p = unwrap_or (last_of (each_row (limit_by p) c)) 0

-- no limit, or fewer run there than it
unfoldable pub has_free_seat : Trace → ℕ → Bool
has_free_seat c p = limit_of c p == 0 || nat_lt (length (running_at c p)) (limit_of c p)
