-- What is so of the addresses of a trace, by the pods that live.
use Rattle.std.specs.Prelude.{◌≡◌, ◌≢◌, ◌<◌, ◌≤◌, ◌++◌, ℕ, true, false, [], ◌∷◌, length, Option, None, Some, IsSome}
use Rattle.std.specs.Option.{option_and_then}
use Rattle.kn_event.specs.declared.entry.Entry.{Entry}
use Rattle.kn_event.specs.Lists.{contains}
use Rattle.kn_trace.specs.Rows.{created_by}
use Rattle.kn_trace.specs.Trace.{Trace, live_pods, next_starting}
use Rattle.kn_book.specs.Book.{address_of, addressed, next_to_probe}

abbrev pub IsLive : Trace → ℕ → Type 0
IsLive c p = contains p (live_pods c) ≡ true

-- two live pods with one address are one pod
abbrev pub HaveOwnAddresses : ℕ → Trace → Type 0
HaveOwnAddresses n c = (p q a : ℕ) → IsLive c p → IsLive c q → p ≢ q → address_of n c p ≡ Some a → address_of n c q ≢ Some a

-- an address is one of those that there are
abbrev pub AreThere : ℕ → Trace → Type 0
AreThere n c = (p a : ℕ) → n ≢ 0 → address_of n c p ≡ Some a → a < n

-- a pod that isn't live has none
abbrev pub GoWithPods : ℕ → Trace → Type 0
GoWithPods n c = (p : ℕ) → n ≢ 0 → contains p (live_pods c) ≡ false → address_of n c p ≡ None

-- whatever comes, a pod keeps its address while it lives
abbrev pub Stay : ℕ → Trace → Trace → Type 0
Stay n c more = (p a : ℕ) → IsLive c p → IsLive (c ++ more) p → address_of n c p ≡ Some a → address_of n (c ++ more) p ≡ Some a

-- some live pod has the address
abbrev pub IsAddressTaken : ℕ → Trace → ℕ → Type 0
IsAddressTaken n c a = (p : ℕ) × IsLive c p × (address_of n c p ≡ Some a)

-- the least of n addresses that no live pod has; none where each is some pod's
pub record IsLeastFree (n : ℕ) (c : Trace) (least : Option ℕ) : Type 0 where
  pub free : (a : ℕ) → least ≡ Some a → (a < n) × ¬ IsAddressTaken n c a
  pub lower : (a : ℕ) → least ≡ Some a → (b : ℕ) → b < a → IsAddressTaken n c b
  pub none : least ≡ None → (b : ℕ) → b < n → IsAddressTaken n c b

-- a pod that the entry creates gets that one
abbrev pub GetsLeast : ℕ → Trace → Entry → Type 0
GetsLeast n c e = (p : ℕ) → n ≢ 0 → created_by e.row ≡ Some p → IsLeastFree n c (address_of n (c ++ e ∷ []) p)

-- while a pod waits no address is free
abbrev pub WaitInNeed : ℕ → Trace → Type 0
WaitInNeed n c = (p : ℕ) → IsLive c p → address_of n c p ≡ None → (a : ℕ) → a < n → IsAddressTaken n c a

-- so none waits where there are as many addresses as live pods, or more
abbrev pub AreEnough : ℕ → Trace → Type 0
AreEnough n c = length (live_pods c) ≤ n → (p : ℕ) → IsLive c p → IsSome (address_of n c p)

-- while a pod waits so does each later one
abbrev pub WaitInTurn : ℕ → Trace → Type 0
WaitInTurn n c = (p q : ℕ) → p < q → IsLive c p → IsLive c q → address_of n c p ≡ None → address_of n c q ≡ None

-- no other Starting pod is probed where the next one waits
abbrev pub ProbesTheNext : ℕ → Trace → Type 0
ProbesTheNext n c = (from : ℕ) → next_to_probe n c from ≡ option_and_then (addressed n c) (next_starting c from)
