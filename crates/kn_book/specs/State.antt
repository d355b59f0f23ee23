-- The book that is kept, and whose it is.
use Rattle.std.specs.Prelude.{◌≡◌, ◌≢◌, ◌≤◌, ◌+◌, ℕ, ◌==◌, List, [], length, Option, Some, if◌then◌else◌}
use Rattle.kn_event.specs.declared.entry.Entry.{Entry}
use Rattle.kn_event.specs.declared.event.Event.{Event}
use Rattle.kn_event.specs.declared.revision.Spec.{Spec}
use Rattle.kn_trace.specs.Events.{react}
use Rattle.kn_trace.specs.Rows.{created_by}
use Rattle.kn_trace.specs.Trace.{Trace, each_row}
use Rattle.kn_book.specs.Book.{Book, address_in, book_of, noted_all}

-- how many addresses there are, and the pods' holdings
pub record BookState : Type 0 where
  pub addresses : ℕ
  pub holdings : Book

-- the book of a trace for n addresses. Where there are none nothing is kept
unfoldable pub state_of : ℕ → Trace → BookState
state_of n c = record { addresses = n; holdings = if n == 0 then [] else book_of n c }

abbrev pub IsBookOf : BookState → Trace → Type 0
IsBookOf state c = state ≡ state_of state.addresses c

-- the pods that it has, and those that the entries create, are as many at most as may live
abbrev pub HasRoom : BookState → List Entry → Type 0
HasRoom state es = state.addresses ≢ 0 → length state.holdings + length (each_row created_by es) ≤ 20500

-- wherever a book stands for the trace it has room for one event more
abbrev pub HasRoomNext : Spec → Trace → Type 0
HasRoomNext s c = (state : BookState) (e : Event) → IsBookOf state c → HasRoom state (react s c e)

-- after these entries
unfoldable pub after : BookState → List Entry → BookState
after state es = record state { holdings = if state.addresses == 0 then state.holdings else noted_all state.addresses es state.holdings }

-- what it says of pod p
unfoldable pub address_at : BookState → ℕ → Option ℕ
address_at state p = if state.addresses == 0 then Some p else address_in state.holdings p
