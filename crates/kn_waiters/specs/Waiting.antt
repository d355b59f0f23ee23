-- Who waits for which request, and whose wait an entry ends.
use Rattle.std.specs.Prelude.{ℕ, ◌≡◌, ◌≤◌, ◌<◌, ◌+◌, ◌⊎◌, Option, Some, None, Bool, true, false, not, List, ◌∷◌, ◌++◌, map, length, slice_index_or}
use Rattle.std.specs.List.{filter, Contains}
use Rattle.std.specs.List.Sorted.{IsNonDecreasingBy, IsPartitionPoint, IsPermutation}
use Rattle.kn_event.specs.declared.entry.Entry.{Entry}
use Rattle.kn_event.specs.declared.entry.Row.{Row}
use Rattle.kn_event.specs.declared.entry.Row.TheVariants as row
use Rattle.kn_event.specs.Lists.{contains}
use Rattle.kn_trace.specs.Rows.{ended_by}
use Rattle.kn_trace.specs.Trace.{each_row}
use Rattle.kn_waiters.specs.declared.waiters.Waiter.{Waiter}

-- the request whose wait a row ends, since it was assigned to a pod, runs or has ended
abbrev pub woken_by : Row → Option ℕ
woken_by (row.Assign r p) = Some r
woken_by (row.Run r) = Some r
woken_by x = ended_by x

-- whether one of the entries ends the request's wait
abbrev pub rouses : List Entry → ℕ → Bool
rouses es r = contains r (each_row woken_by es)

pub record WaitersState : Type 0 where
  pub room : ℕ
  pub waiting : List Waiter
  pub called : List ℕ

abbrev pub waiter : ℕ → ℕ → Waiter
waiter r p = record { request = r; pass = p }

abbrev pub HasFreePlace : WaitersState → Type 0
HasFreePlace s = length s.waiting + length s.called < s.room

abbrev pub IsFull : WaitersState → Type 0
IsFull s = s.room ≤ length s.waiting + length s.called

abbrev pub AreByRequest : List Waiter → Type 0
AreByRequest ws = IsNonDecreasingBy (λ (w : Waiter). w.request) ws

-- the waiters before the place are those whose request is lower
abbrev pub IsStartOf : ℕ → List Waiter → ℕ → Type 0
IsStartOf r ws i = (i ≤ length ws) × IsPartitionPoint (λ (w : Waiter). w.request < r) (λ (w : Waiter). r ≤ w.request) ws i

-- the place of one that waits, or none where it doesn't
abbrev pub IsPlaceIn : Waiter → List Waiter → Option ℕ → Type 0
IsPlaceIn w ws None = Contains ws w → ⊥
IsPlaceIn w ws (Some i) = (i < length ws) × (slice_index_or ws i w ≡ w)

-- what is so of the lists, however the calls go
pub record IsRoomy (ws : List Waiter) (ps : List ℕ) (room : ℕ) : Type 0 where
  pub few : length ws + length ps ≤ room
  pub order : AreByRequest ws

-- the one is taken out where it is there, and all others stay
abbrev pub TakesOut : Waiter → List Waiter → List Waiter → Type 0
TakesOut w old new = (Contains old w × IsPermutation old (w ∷ new)) ⊎ ((Contains old w → ⊥) × (new ≡ old))

-- those who are left once the pass waits no more for the request that it asked for before, if it did
abbrev pub LeavesOut : ℕ → Option ℕ → List Waiter → List Waiter → Type 0
LeavesOut p None old left = left ≡ old
LeavesOut p (Some r) old left = TakesOut (waiter r p) old left

-- .. and all else is as it was
pub record Forgets (p : ℕ) (before : Option ℕ) (old left : WaitersState) : Type 0 where
  pub waiting : LeavesOut p before old.waiting left.waiting
  pub called : left.called ≡ old.called
  pub room : left.room ≡ old.room

-- the pass waits beside those who are left, where it is to and there is a place, and else nobody more does
abbrev pub WaitsToo : ℕ → ℕ → Bool → WaitersState → WaitersState → Type 0
WaitsToo p r true left new =
    (HasFreePlace left → IsPermutation (waiter r p ∷ left.waiting) new.waiting) × (IsFull left → new ≡ left) × (new.called ≡ left.called) × (new.room ≡ left.room)
WaitsToo p r false left new = new ≡ left

-- the pass asks for a request, and for the one before no more; it waits for it where `waits` says so
pub record Asks (p : ℕ) (before : Option ℕ) (r : ℕ) (waits : Bool) (old new : WaitersState) : Type 0 where
  pub left : WaitersState
  pub forgets : Forgets p before old left
  pub waits_too : WaitsToo p r waits left new

-- who waits for one of these requests is called and waits no more, and nobody else
pub record Calls (is : ℕ → Bool) (old new : WaitersState) : Type 0 where
  pub room : new.room ≡ old.room
  pub waiting : new.waiting ≡ filter (λ w. not (is w.request)) old.waiting
  pub called : IsPermutation (old.called ++ map (λ (w : Waiter). w.pass) (filter (λ w. is w.request) old.waiting)) new.called
