-- What seats keep of the fields behind their view: the order of the pods, room, and a cell for each request that is queued.
use Rattle.std.specs.Prelude.{◌≡◌, ℕ, ◌+◌, ◌<◌, ◌≤◌, List, Option, Some, None, length, map, sum_by, slice_index, slice_index_or, slice_set, remove}
use Rattle.std.specs.List.{AllPairs}
use Rattle.kn_seats.specs.declared.cells.Cells.{Cells}
use Rattle.kn_seats.specs.declared.tracker.Tracker.{Tracker}
use Rattle.kn_seats.specs.Pods.{Pod, requests_at_all, pod_at, with_pod_changed, without_pod}
use Rattle.kn_seats.specs.Cells.{HasRoom}
use Rattle.kn_seats.specs.Chains.{after, requests_in, AreDistinctSteps, AreOwned}

-- the numbers rise
abbrev pub IsAscending : List Pod → Type 0
IsAscending pods = AllPairs (λ a b. a.number < b.number) pods

-- how many requests are queued at all of them
abbrev pub queued_at_all : List Pod → ℕ
queued_at_all pods = sum_by (λ pod. length pod.queued) pods

-- each request that is queued has a cell, and the others that are made are spare; no more are made than there is room for
pub record IsKept (pods : List Pod) (spare made pod_room request_room : ℕ) : Type 0 where
  pub ascending : IsAscending pods
  pub pods_fit : length pods ≤ pod_room
  pub requests_fit : requests_at_all pods ≤ request_room
  pub cells : spare + queued_at_all pods ≡ made
  pub cells_fit : made ≤ request_room
  pub most_requests : request_room ≤ 20000

-- a pod as callers see it: its queue is the list of the requests in its cells
abbrev pub seen : Cells → Tracker → Pod
seen cells tracker = record {
  number = tracker.number;
  limit = tracker.limit;
  running = tracker.running;
  queued = requests_in cells.request.items cells.next.items tracker.queue.first tracker.queue.count;
  draining = tracker.draining;
}

-- so many cells from the first on, all different and of one owner, and the last of them
pub record IsLine (owner : ℕ → Option ℕ) (who : Option ℕ) (next : List ℕ) (first last count : ℕ) : Type 0 where
  pub apart : AreDistinctSteps next first count
  pub owned : AreOwned owner who next first count
  pub ends : (n : ℕ) → count ≡ n + 1 → after next first n ≡ last

-- the cells of a pod's queue belong to it
abbrev pub HasQueue : (ℕ → Option ℕ) → List ℕ → Tracker → Type 0
HasQueue owner next tracker = IsLine owner (Some tracker.number) next tracker.queue.first tracker.queue.last tracker.queue.count

-- each spare place is there, it is listed once, and nobody owns its cell
pub record AreSpare (owner : ℕ → Option ℕ) (spare : List ℕ) (made : ℕ) : Type 0 where
  pub inside : (i : ℕ) → i < length spare → slice_index spare i < made
  pub free : (i : ℕ) → i < length spare → owner (slice_index spare i) ≡ None
  pub apart : (i j : ℕ) → i < j → j < length spare → slice_index spare i ≡ slice_index spare j → ⊥

-- so many steps from a place on, one leads to this one
pub record IsStep (next : List ℕ) (first count x : ℕ) : Type 0 where
  pub steps : ℕ
  pub within : steps < count
  pub reached : after next first steps ≡ x

-- a pod of this number is there, and in its queue this cell
pub record IsFound (trackers : List Tracker) (next : List ℕ) (x p : ℕ) : Type 0 where
  pub place : ℕ
  pub inside : place < length trackers
  pub tracker : Tracker
  pub stands : (d : Tracker) → slice_index_or trackers place d ≡ tracker
  pub number : tracker.number ≡ p
  pub step : IsStep next tracker.queue.first tracker.queue.count x

-- the pods as callers see them are kept, and each cell that is made is spare or belongs to one pod, in whose queue it stands once
pub record IsHeld (trackers : List Tracker) (cells : Cells) (pod_room request_room : ℕ) : Type 0 where
  pub made : ℕ
  pub kept : IsKept (map (seen cells) trackers) (length cells.spare.items) made pod_room request_room
  pub request : length cells.request.items ≡ made
  pub next : length cells.next.items ≡ made
  pub home : length cells.home.items ≡ made
  pub room : HasRoom request_room cells
  pub owner : ℕ → Option ℕ
  pub homes : (x : ℕ) → slice_index_or cells.home.items x None ≡ owner x
  pub found : (x p : ℕ) → owner x ≡ Some p → IsFound trackers cells.next.items x p
  pub inside : (x p : ℕ) → owner x ≡ Some p → x < made
  pub spares : AreSpare owner cells.spare.items made
  pub queues : (i : ℕ) (d : Tracker) → i < length trackers → HasQueue owner cells.next.items (slice_index_or trackers i d)

-- the pod of this number stands at this place and at no other
pub record IsPlaceOf (p : ℕ) (pods : List Pod) (place : ℕ) : Type 0 where
  pub inside : place < length pods
  pub pod : (d : Pod) → slice_index_or pods place d ≡ pod_at p pods
  pub changed : (by : Pod → Pod) → with_pod_changed p by pods ≡ slice_set pods place (by (pod_at p pods))
  pub removed : without_pod p pods ≡ remove pods place
