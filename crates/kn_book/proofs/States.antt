-- The kept book and the trace that it stands for; and its entries one after the other.
use Rattle.std.proofs.Common.{◌≡◌, ◌≢◌, ℕ, ◌+◌, ◌≤◌, Bool, true, false, not, cond, List, [], ◌∷◌, ◌++◌, length, refl, sym, ap, ◌∙◌, arith, length-append}
use Rattle.std.specs.Prelude.{Option, None, Some, ◌==◌}
use Rattle.std.specs.List.{cons_option, find}
use Rattle.std.specs.Option.{option_and_then}
use Rattle.std.proofs.lemmas.Bool.{eqb-true, false_from_ne_true}
use Rattle.kn_event.specs.declared.entry.Entry.{Entry}
use Rattle.kn_event.specs.declared.entry.Row.{Row}
use Rattle.kn_event.specs.declared.entry.Row.TheVariants as row
use Rattle.kn_trace.specs.Rows.{created_by}
use Rattle.kn_trace.specs.Trace.{Trace, each_row}
use Rattle.kn_record.specs.Rows.{counted}
use Rattle.kn_book.specs.declared.book.Holding.{Holding}
use Rattle.kn_book.specs.Book.{Book, address_in, address_of, book_of, given, given_where, least_free, noted, noted_all, shared_out, waits, with_pod, without_pod}
use Rattle.kn_book.specs.State.{BookState, IsBookOf, address_at, after, state_of}
use Rattle.kn_book.proofs.Lawful.{book-append}

pub address-trace : (state : BookState) (c : Trace) (p : ℕ) → IsBookOf state c → address_at state p ≡ address_of state.addresses c p
unfolding address_at address_of state_of
address-trace state c p e = by (state.addresses == 0) (ap (λ (x : BookState). x.holdings) e)
  where
    by : (t : Bool) → state.holdings ≡ cond t [] (book_of state.addresses c) → cond t (Some p) (address_in state.holdings p) ≡ cond t (Some p) (address_in (book_of state.addresses c) p)
    by true e = refl
    by false e = ap (λ (b : Book). address_in b p) e

-- what is kept says it: by the pod's number, and by its holding
pub address-zero : (state : BookState) (c : Trace) (p : ℕ) → IsBookOf state c → state.addresses ≡ 0 → Some p ≡ address_of state.addresses c p
unfolding address_of
address-zero state c p stands e = rw e refl

pub address-found : (state : BookState) (c : Trace) (p : ℕ) (found : Option Holding) → IsBookOf state c → state.addresses ≢ 0 → found ≡ find (λ (h : Holding). h.pod == p) state.holdings
    → option_and_then (λ (h : Holding). h.address) found ≡ address_of state.addresses c p
unfolding address_at
address-found state c p found stands some e =
    ap (λ (o : Option Holding). option_and_then (λ (h : Holding). h.address) o) e
    ∙ rw (false_from_ne_true (state.addresses == 0) (λ z. some (eqb-true state.addresses 0 z))) at (address-trace state c p stands)

pub after-stands : (state : BookState) (c es : Trace) → IsBookOf state c → after state es ≡ state_of state.addresses (c ++ es)
unfolding after state_of
after-stands state c es e = ap (λ (b : Book). record state { holdings = b }) (by (state.addresses == 0) (ap (λ (x : BookState). x.holdings) e))
  where
    by : (t : Bool) → state.holdings ≡ cond t [] (book_of state.addresses c) → cond t state.holdings (noted_all state.addresses es state.holdings) ≡ cond t [] (book_of state.addresses (c ++ es))
    by true e = e
    by false e = ap (λ (b : Book). noted_all state.addresses es b) e ∙ sym (book-append state.addresses c es)

pub after-none : (state : BookState) (es : List Entry) → state.addresses ≡ 0 → state ≡ after state es
unfolding after
after-none state es e = rw e refl

pub after-some : (state : BookState) (es : List Entry) (b : Book) → (state.addresses == 0) ≡ false → b ≡ noted_all state.addresses es state.holdings → record { addresses = state.addresses; holdings = b } ≡ after state es
unfolding after
after-some state es b some e = rw (some, e) refl

-- ---- how many pods

length-given : (a : ℕ) (b : Book) → length (given a b) ≡ length b
length-given a [] = refl
length-given a (h ∷ b) = by (waits h) (length-given a b)
  where
    by : (t : Bool) → length (given a b) ≡ length b → length (cond t (record h { address = Some a } ∷ b) (h ∷ given a b)) ≡ length (h ∷ b)
    by true e = refl
    by false e = omega arith

length-shared : (n : ℕ) (b : Book) → length (shared_out n b) ≡ length b
unfolding shared_out
length-shared n b = by (least_free n b)
  where
    by : (o : Option ℕ) → length (given_where o b) ≡ length b
    by None = refl
    by (Some a) = length-given a b

length-without : (p : ℕ) (b : Book) → length (without_pod p b) ≤ length b
length-without p [] = omega arith
length-without p (h ∷ b) = by (not (p == h.pod)) (length-without p b)
  where
    by : (t : Bool) → length (without_pod p b) ≤ length b → length (cond t (h ∷ without_pod p b) (without_pod p b)) ≤ length (h ∷ b)
    by true e = omega arith
    by false e = omega arith

-- a row adds one at most, where it creates one
pub length-noted : (n : ℕ) (x : Row) (b : Book) → length (noted n x b) ≤ length b + counted (created_by x)
unfolding noted
length-noted n (row.Create p limit) b = let e = length-shared n (with_pod p b) in let l = length-append b (record { pod = p; address = None } ∷ []) in omega arith
length-noted n (row.Remove p) b = let e = length-shared n (without_pod p b) in let l = length-without p b in omega arith
length-noted n (row.LostPod p) b = let e = length-shared n (without_pod p b) in let l = length-without p b in omega arith
length-noted n _ b = omega arith

-- ---- entry by entry

pub counted-cons : (e : Entry) (es : List Entry) → length (each_row created_by (e ∷ es)) ≡ counted (created_by e.row) + length (each_row created_by es)
counted-cons e es = by (created_by e.row)
  where
    by : (o : Option ℕ) → length (cons_option o (each_row created_by es)) ≡ counted o + length (each_row created_by es)
    by None = omega arith
    by (Some p) = omega arith
