-- Which address each live pod has: the least that no live pod had when it was created, or that became free while it waited.
use Rattle.std.specs.Prelude.{ℕ, Bool, not, ◌==◌, List, [], ◌∷◌, ◌++◌, map, Option, None, Some, is_none, option_map, unwrap_or, nat_le, if◌then◌else◌}
use Rattle.std.specs.List.{filter, filter_map, find, range_with_len}
use Rattle.std.specs.Option.{option_and_then}
use Rattle.kn_event.specs.declared.entry.Entry.{Entry}
use Rattle.kn_event.specs.declared.entry.Row.{Row}
use Rattle.kn_event.specs.declared.entry.Row.TheVariants as row
use Rattle.kn_event.specs.Lists.{contains}
use Rattle.kn_trace.specs.Trace.{Trace, first_of, starting_pods}
use Rattle.kn_book.specs.declared.book.Holding.{Holding}

-- the live pods, in the order in which they were created, each with its address; one without waits for an address
abbrev pub Book : Type 0
Book = List Holding

abbrev pub pods_in : Book → List ℕ
pods_in b = map (λ (h : Holding). h.pod) b

-- the addresses that pods have
abbrev pub taken : Book → List ℕ
taken b = filter_map (λ (h : Holding). h.address) b

-- of the addresses below n the least that no pod has
unfoldable pub least_free : ℕ → Book → Option ℕ
least_free n b = find (λ a. not (contains a (taken b))) (range_with_len 0 n)

abbrev pub waits : Holding → Bool
waits h = is_none h.address

-- address a goes to the first pod that waits
abbrev pub given : ℕ → Book → Book
given a [] = []
given a (h ∷ b) = if waits h then record h { address = Some a } ∷ b else h ∷ given a b

abbrev pub given_where : Option ℕ → Book → Book
given_where None b = b
given_where (Some a) b = given a b

-- so does the least free one, if there is one
unfoldable pub shared_out : ℕ → Book → Book
shared_out n b = given_where (least_free n b) b

-- ---- by one more row: who is created waits behind all others, who goes leaves an address, and then a free one is given

abbrev pub with_pod : ℕ → Book → Book
with_pod p b = b ++ record { pod = p; address = None } ∷ []

abbrev pub without_pod : ℕ → Book → Book
without_pod p b = filter (λ (h : Holding). not (p == h.pod)) b

unfoldable pub noted : ℕ → Row → Book → Book
noted n (row.Create p limit) b = shared_out n (with_pod p b)
noted n (row.Remove p) b = shared_out n (without_pod p b)
noted n (row.LostPod p) b = shared_out n (without_pod p b)
noted n _ b = b

-- ---- by all rows of a trace

abbrev pub noted_all : ℕ → List Entry → Book → Book
noted_all n [] b = b
noted_all n (e ∷ es) b = noted_all n es (noted n e.row b)

unfoldable pub book_of : ℕ → Trace → Book
book_of n c = noted_all n c []

-- ---- what the book says of pod p

abbrev pub address_in : Book → ℕ → Option ℕ
address_in b p = option_and_then (λ (h : Holding). h.address) (find (λ (h : Holding). h.pod == p) b)

-- where there are no addresses there is no book: the pod's number is its address
unfoldable pub address_of : ℕ → Trace → ℕ → Option ℕ
address_of n c p = if n == 0 then Some p else address_in (book_of n c) p

-- the pod with its address, where it has one
abbrev pub addressed : ℕ → Trace → ℕ → Option (ℕ × ℕ)
addressed n c p = option_map (λ a. (p, a)) (address_of n c p)

-- the least Starting pod that is not below this number and has an address, with that address
unfoldable pub next_to_probe : ℕ → Trace → ℕ → Option (ℕ × ℕ)
next_to_probe n c from = first_of (filter_map (addressed n c) (filter (λ p. nat_le from p) (starting_pods c)))

-- whom a call of the pod reaches: its address, or n where it has none, at which there is nobody
unfoldable pub call_address : ℕ → Trace → ℕ → ℕ
call_address n c p = unwrap_or (address_of n c p) n
