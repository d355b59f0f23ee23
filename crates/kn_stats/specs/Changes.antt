-- Changes of live requests with their times, and what they make of a stretch of time. Lists have the earliest first.
use Rattle.std.specs.Prelude.{ℕ, Bool, true, false, ◌+◌, ◌-◌, ◌*◌, ◌&&◌, ◌||◌, ◌==◌, not, ◌≤◌, max, min, List, [], ◌∷◌, ⊤, Option, None, Some, if◌then◌else◌}
use Rattle.std.specs.List.{count_by, sum_by}
use Rattle.kn_event.specs.Lists.{is_some_of}
use Rattle.kn_scaling.specs.Average.{second_of}
use Rattle.kn_stats.specs.declared.change.Change.{Change}
use Rattle.kn_stats.specs.declared.change.Change.TheVariants as change

-- a change and its time in milliseconds
pub record TimedChange : Type 0 where
  pub time : ℕ
  pub change : Change

abbrev pub timed : ℕ → Change → TimedChange
timed time change = record { time = time; change = change }

-- ---- kinds of changes

-- the activator takes a request in
abbrev pub is_admitted : Change → Bool
is_admitted change.Admitted = true
is_admitted _ = false

-- the activator hands it to a pod
abbrev pub is_assigned : Change → Bool
is_assigned (change.Assigned p) = true
is_assigned _ = false

-- a request goes past the activator, straight to a pod
abbrev pub is_directed : Change → Bool
is_directed (change.Directed p) = true
is_directed _ = false

-- a request that the activator took in ends, held or at a pod
abbrev pub ends_admitted : Change → Bool
ends_admitted change.EndedHeld = true
ends_admitted (change.EndedAt p proxied) = proxied
ends_admitted _ = false

-- one that the activator handed to a pod ends there
abbrev pub ends_assigned : Change → Bool
ends_assigned (change.EndedAt p proxied) = proxied
ends_assigned _ = false

-- one that went straight to a pod ends there
abbrev pub ends_directed : Change → Bool
ends_directed (change.EndedAt p proxied) = not proxied
ends_directed _ = false

-- one that waits at the activator stops waiting: it is handed to a pod, or ends
abbrev pub ends_waiting : Change → Bool
ends_waiting (change.Assigned p) = true
ends_waiting change.EndedHeld = true
ends_waiting _ = false

-- a request becomes live, on either way
abbrev pub is_start : Change → Bool
is_start c = is_admitted c || is_directed c

-- a live request ends
abbrev pub is_end : Change → Bool
is_end c = ends_admitted c || ends_directed c

-- the pod that a change names
abbrev pub pod_of : Change → Option ℕ
pod_of (change.Assigned p) = Some p
pod_of (change.Directed p) = Some p
pod_of (change.EndedAt p proxied) = Some p
pod_of _ = None

-- the same kinds at pod p alone
abbrev pub at : (Change → Bool) → ℕ → Change → Bool
at test p c = test c && is_some_of p (pod_of c)

-- a request comes to a pod, on either way
abbrev pub is_arrival_at : ℕ → Change → Bool
is_arrival_at p c = at is_directed p c || at is_assigned p c

-- a request ends at a pod, on whichever way it came
abbrev pub is_end_at : ℕ → Change → Bool
is_end_at p c = at ends_directed p c || at ends_assigned p c

-- ---- sums

-- the milliseconds after this time, of those at `from` and later and before `until`
abbrev pub after_in : ℕ → ℕ → ℕ → ℕ
after_in from until time = until - max from time

abbrev pub part : (Change → Bool) → ℕ → ℕ → TimedChange → ℕ
part test from until x = if test x.change then after_in from until x.time else 0

-- the sum, over the changes of one kind, of the milliseconds that lie after them
unfoldable pub after_sum : (Change → Bool) → ℕ → ℕ → List TimedChange → ℕ
after_sum test from until cs = sum_by (part test from until) cs

-- how much of these milliseconds requests took that begin and end so, all summed up: each adds those after its begin, and
-- its end takes back those after it
unfoldable pub time_taken : (Change → Bool) → (Change → Bool) → ℕ → ℕ → List TimedChange → ℕ
time_taken begins ends from until cs = after_sum begins from until cs - after_sum ends from until cs

-- the load of a second: what all requests took of it, those that came through the activator counted once
abbrev pub load_by : List TimedChange → ℕ → ℕ
load_by cs s = time_taken is_start is_end (1000 * s) (1000 * (s + 1)) cs

-- how many changes are of the kind
unfoldable pub count_of : (Change → Bool) → List TimedChange → ℕ
count_of test cs = count_by (λ x. test x.change) cs

-- how many requests became live in the second
unfoldable pub arrived_by : List TimedChange → ℕ → ℕ
arrived_by cs s = count_by (λ x. is_start x.change && (second_of x.time == s)) cs

abbrev pub counted_most : ℕ
counted_most = 1000000

-- how many of those are counted
abbrev pub arrived_count : List TimedChange → ℕ → ℕ
arrived_count cs s = min counted_most (arrived_by cs s)

-- no change is after this time
abbrev pub AreBy : ℕ → List TimedChange → Type 0
AreBy time [] = ⊤
AreBy time (x ∷ xs) = (x.time ≤ time) × AreBy time xs
