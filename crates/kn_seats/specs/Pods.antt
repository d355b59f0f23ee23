-- Pods as their trackers know them: the requests that run at each, and those that are queued there in order.
use Rattle.std.specs.Prelude.{◌≡◌, ℕ, Bool, false, not, ◌+◌, ◌*◌, ◌&&◌, ◌||◌, ◌==◌, nat_lt, nat_le, List, [], ◌∷◌, length, map, filter, find, sum_by, unwrap_or, if◌then◌else◌}
use Rattle.std.specs.List.{list_any}

-- a pod: its limit, how many run there, and the requests that are queued there in order
pub record Pod : Type 0 where
  pub number : ℕ
  pub limit : ℕ
  pub running : ℕ
  pub queued : List ℕ
  pub draining : Bool

-- a pod of this number and limit that has no request
abbrev pub idle_pod : ℕ → ℕ → Pod
idle_pod p limit = record { number = p; limit = limit; running = 0; queued = []; draining = false }

-- how many requests are at a pod
abbrev pub requests_at : Pod → ℕ
requests_at pod = pod.running + length pod.queued

-- how many are at all of them
abbrev pub requests_at_all : List Pod → ℕ
requests_at_all pods = sum_by requests_at pods

-- fewer run than the limit; limit 0 is no limit
abbrev pub has_free_seat : Pod → Bool
has_free_seat pod = pod.limit == 0 || nat_lt pod.running pod.limit

-- ten are queued for each that may run; a pod without a limit is never full
abbrev pub is_full : Pod → Bool
is_full pod = nat_lt 0 pod.limit && nat_le (11 * pod.limit) (requests_at pod)

-- a pod of this number is among them
abbrev pub has_pod : ℕ → List Pod → Bool
has_pod p pods = list_any (λ pod. pod.number == p) pods

-- the pod of this number; one without requests and limit where there is none
abbrev pub pod_at : ℕ → List Pod → Pod
pod_at p pods = unwrap_or (find (λ pod. pod.number == p) pods) (idle_pod p 0)

-- the pod of this number is changed, all others stay, and so does their order
abbrev pub with_pod_changed : ℕ → (Pod → Pod) → List Pod → List Pod
with_pod_changed p change pods = map (λ pod. if pod.number == p then change pod else pod) pods

-- the pod of this number is gone, the others stay in their order
abbrev pub without_pod : ℕ → List Pod → List Pod
without_pod p pods = filter (λ pod. not (pod.number == p)) pods

-- the requests without the first that is r
abbrev pub without_request : ℕ → List ℕ → List ℕ
without_request r [] = []
without_request r (q ∷ queued) = if q == r then queued else q ∷ without_request r queued

-- one of the requests is r, and only one
abbrev pub StandsOnce : ℕ → List ℕ → Type 0
StandsOnce r queued = length (filter (λ q. not (r == q)) queued) + 1 ≡ length queued
