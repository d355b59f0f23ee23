-- Worked rows of the addresses: rows of pods, and the address of each pod after them.
use Rattle.std.specs.Prelude.{◌≡◌, ℕ, List, [], ◌∷◌, ◌++◌, map, Option, None, Some, ⊤}
use Rattle.std.specs.List.{range_with_len}
use Rattle.kn_event.specs.declared.entry.Row.{Row}
use Rattle.kn_event.specs.declared.entry.Row.TheVariants as row
use Rattle.kn_trace.specs.Trace.{Trace, created, entry}
use Rattle.kn_book.specs.Book.{address_of, book_of, call_address, least_free, noted, shared_out}

abbrev pub rows_of : List Row → Trace
rows_of rows = map (λ (x : Row). entry 0 x) rows

-- the address of each pod that was created, in the order of their numbers
abbrev pub addresses : ℕ → List Row → List (Option ℕ)
addresses n rows = map (λ p. address_of n (rows_of rows) p) (range_with_len 0 (created (rows_of rows)))

-- at which address a call reaches each
abbrev pub calls : ℕ → List Row → List ℕ
calls n rows = map (λ p. call_address n (rows_of rows) p) (range_with_len 0 (created (rows_of rows)))

-- a proof that names this computes whole books
unfoldable pub whole_book : Type 0
unfolding address_of book_of call_address created least_free noted shared_out
whole_book = ⊤

abbrev pub five_pods : List Row
five_pods = row.Create 0 1 ∷ row.Create 1 1 ∷ row.Create 2 1 ∷ row.Create 3 1 ∷ row.Create 4 1 ∷ []

-- five pods at three addresses: two wait
abbrev pub TwoWait : Type 0
TwoWait = addresses 3 five_pods ≡ Some 0 ∷ Some 1 ∷ Some 2 ∷ None ∷ None ∷ []

-- a pod that is removed leaves its address to the first that waits
abbrev pub FirstGetsIt : Type 0
FirstGetsIt = addresses 3 (five_pods ++ row.Drain 1 ∷ row.Remove 1 ∷ []) ≡ Some 0 ∷ None ∷ Some 2 ∷ Some 1 ∷ None ∷ []

-- so does one that is lost, and two in one event do so one after the other
abbrev pub TwoGo : Type 0
TwoGo = addresses 3 (five_pods ++ row.LostPod 2 ∷ row.Remove 0 ∷ []) ≡ None ∷ Some 1 ∷ None ∷ Some 2 ∷ Some 0 ∷ []

-- a pod that waits may go: its address comes to nobody
abbrev pub WaitingGoes : Type 0
WaitingGoes = addresses 3 (five_pods ++ row.LostPod 3 ∷ row.LostPod 0 ∷ []) ≡ None ∷ Some 1 ∷ Some 2 ∷ None ∷ Some 0 ∷ []

-- a new pod gets the least of those that are free, and nobody moves
abbrev pub LeastFirst : Type 0
LeastFirst =
    addresses 4 (row.Create 0 1 ∷ row.Create 1 1 ∷ row.Create 2 1 ∷ row.LostPod 1 ∷ row.LostPod 0 ∷ row.Create 3 1 ∷ row.Create 4 1 ∷ row.Create 5 1 ∷ [])
    ≡ None ∷ None ∷ Some 2 ∷ Some 0 ∷ Some 1 ∷ Some 3 ∷ []

-- without addresses a pod's number is its address
abbrev pub ByNumber : Type 0
ByNumber = calls 0 (five_pods ++ row.LostPod 2 ∷ []) ≡ 0 ∷ 1 ∷ 2 ∷ 3 ∷ 4 ∷ []

-- who waits is called where nobody is
abbrev pub CallsNobody : Type 0
CallsNobody = calls 3 five_pods ≡ 0 ∷ 1 ∷ 2 ∷ 3 ∷ 3 ∷ []
