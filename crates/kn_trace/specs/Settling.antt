-- What follows from the entries so far without a further act: who waits is dispatched, and empty pods go.
use Rattle.std.specs.Prelude.{ℕ, Bool, true, false, ◌++◌, nat_lt, List, [], ◌∷◌, map, Option, None, Some, if◌then◌else◌}
use Rattle.std.specs.List.{filter}
use Rattle.kn_event.specs.declared.entry.Entry.{Entry}
use Rattle.kn_event.specs.declared.entry.Row.TheVariants as row
use Rattle.kn_event.specs.declared.revision.Spec.{Spec}
use Rattle.kn_trace.specs.Trace.{Trace, entry, is_empty, at_pod, draining, has_free_seat, held, live_pods, queued_at}
use Rattle.kn_trace.specs.Capacity.{capacity, in_use}
use Rattle.kn_trace.specs.Choice.{choice}

-- the entry and what follows it, where the test holds
abbrev pub while_free : Bool → Entry → (Entry → List Entry) → List Entry
while_free false e more = []
while_free true e more = e ∷ more e

-- these queued requests of pod p run, one after the other, while it has a free seat
unfoldable pub promotions_at : ℕ → Trace → ℕ → List ℕ → List Entry
promotions_at t c p [] = []
promotions_at t c p (r ∷ rs) = while_free (has_free_seat c p) (entry t (row.Run r)) (λ e. promotions_at t (c ++ e ∷ []) p rs)

-- so at each of these pods in turn
unfoldable pub promotions : ℕ → Trace → List ℕ → List Entry
promotions t c [] = []
promotions t c (p ∷ ps) =
    let here = promotions_at t c p (queued_at c p) in
    here ++ promotions t (c ++ here) ps

-- where the next held request goes: nowhere where as many are in use as the capacity allows
unfoldable pub next_choice : Spec → Trace → Option ℕ
next_choice s c = if nat_lt (in_use c) (capacity s c) then choice s c else None

abbrev pub while_chosen : Option ℕ → (ℕ → Entry) → (Entry → List Entry) → List Entry
while_chosen None assigned more = []
while_chosen (Some p) assigned more = assigned p ∷ more (assigned p)

-- these held requests are assigned, one after the other, while there is a pod for the next
unfoldable pub assignments_of : Spec → ℕ → Trace → List ℕ → List Entry
assignments_of s t c [] = []
assignments_of s t c (r ∷ rs) = while_chosen (next_choice s c) (λ p. entry t (row.Assign r p)) (λ e. assignments_of s t (c ++ e ∷ []) rs)

unfoldable pub held_assignments : Spec → ℕ → Trace → List Entry
held_assignments s t c = assignments_of s t c (held c)

-- each draining pod without a request goes
unfoldable pub removals : ℕ → Trace → List Entry
removals t c = map (λ p. entry t (row.Remove p)) (filter (λ p. is_empty (at_pod c p)) (draining c))

-- first the queued requests run at each live pod in order, then held ones are assigned, then pods are removed
unfoldable pub settling : Spec → ℕ → Trace → List Entry
settling s t c =
    let ran = promotions t c (live_pods c) in
    let gave = held_assignments s t (c ++ ran) in
    (ran ++ gave) ++ removals t ((c ++ ran) ++ gave)
