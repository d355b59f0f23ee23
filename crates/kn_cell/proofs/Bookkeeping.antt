-- The book of a cell's pods: of a new cell, and after an event.
use Rattle.std.proofs.Common.{◌≡◌, ◌≢◌, ℕ, ◌+◌, ◌≤◌, Bool, true, false, List, [], ◌∷◌, ◌++◌, length, refl, sym, ap, ◌∙◌, subst, arith}
use Rattle.std.specs.Prelude.{◌==◌}
use Rattle.std.proofs.Math.Logic.{∥∥₁_elim, ∥∥₁_map}
use Rattle.std.proofs.Math.Bridge.{le_prop}
use Rattle.std.proofs.Props.{props}
use Rattle.std.proofs.lemmas.Bool.{eqb-true, eq-eqb}
use Rattle.std.proofs.lemmas.List.{append-nil}
use Rattle.kn_event.specs.Revision.{AreInRange}
use Rattle.kn_event.specs.declared.entry.Entry.{Entry}
use Rattle.kn_event.specs.declared.event.Event.{Event}
use Rattle.kn_event.specs.declared.revision.Spec.{Spec}
use Rattle.kn_trace.specs.Events.{added, opening, react, trace_of}
use Rattle.kn_trace.specs.Laws.{IsSettled}
use Rattle.kn_trace.specs.Rows.{created_by}
use Rattle.kn_trace.specs.Trace.{Trace, each_row}
use Rattle.kn_record.specs.Made.{IsMade}
use Rattle.kn_laws.specs.History.{History, IsMadeBy}
use Rattle.kn_book.specs.State.{BookState, HasRoom, HasRoomNext, IsBookOf, state_of}
use Rattle.kn_core.specs.State.{RevisionState, StandsFor, StandsForSome}
use Rattle.kn_cell.specs.Books.{HasBook, IsBookFor, IsOpenedBy}

-- ---- a new cell

state-addresses : (n : ℕ) (c : Trace) → (state_of n c).addresses ≡ n
unfolding state_of
state-addresses n c = refl

state-zero : (b c : Trace) → state_of 0 b ≡ state_of 0 c
unfolding state_of
state-zero b c = refl

pub none-addresses : (book : BookState) → ((c : Trace) → book ≡ state_of 0 c) → book.addresses ≡ 0
none-addresses book is = ap (λ (b : BookState). b.addresses) (is []) ∙ state-addresses 0 []

pub first-addresses : (n : ℕ) (first : List Entry) (book : BookState) → book ≡ state_of n first → book.addresses ≡ n
first-addresses n first book is = ap (λ (b : BookState). b.addresses) is ∙ state-addresses n first

-- no book
pub none_for : (book : BookState) (r : RevisionState) → ((c : Trace) → book ≡ state_of 0 c) → IsBookFor book r
none_for book r is = record { ranges = λ some. absurd (some zero); stands = λ c s. is c ∙ ap (λ n. state_of n c) (sym zero) }
  where
    zero : book.addresses ≡ 0
    zero = none-addresses book is

none_of : (l : List Event) → length l ≡ 0 → l ≡ []
none_of [] e = refl
none_of (x ∷ xs) e = absurd (omega arith)

-- no event made the trace, so it is the opening
unmade : (s : Spec) (start clock count : ℕ) (c : Trace) → count ≡ 0 → History s start clock count c → c ≡ opening s start
unfolding trace_of added
unmade s start clock count c none h = h.trace ∙ ap (λ es. trace_of s start es) (none_of h.events (h.many ∙ none)) ∙ append-nil (opening s start)

book_prop : (a b : BookState) → IsProp (a ≡ b)
book_prop a b = hlevel props

-- the book after the entries that the revision opened with
pub opened_for : (n : ℕ) (r : RevisionState) (first : List Entry) (book : BookState) → (n ≢ 0 → IsOpenedBy r first) → book ≡ state_of n first → IsBookFor book r
opened_for n r first book opened is = record { ranges = λ some. (opened (λ z. some (addresses ∙ z))).ranges; stands = λ c s. is ∙ by (n == 0) refl c s ∙ ap (λ m. state_of m c) (sym addresses) }
  where
    addresses : book.addresses ≡ n
    addresses = first-addresses n first book is

    by : (t : Bool) → (n == 0) ≡ t → (c : Trace) → StandsFor r c → state_of n first ≡ state_of n c
    by true z c s = let zero : n ≡ 0 = eqb-true n 0 z in rw zero (state-zero first c)
    by false z c s =
        let o = opened (λ e. let yes = eq-eqb n 0 e in absurd (cc)) in
        ∥∥₁_elim s.events (book_prop (state_of n first) (state_of n c)) (λ h. ap (λ d. state_of n d) (o.entries ∙ sym (unmade r.spec r.start r.clock r.events c o.events h)))

-- which it has room for
pub opened_room : (n : ℕ) (r : RevisionState) (first : List Entry) → ((s : Spec) (m start : ℕ) → AreInRange s → HasRoom (state_of m []) (opening s start)) → (n ≢ 0 → IsOpenedBy r first)
    → HasRoom (state_of n []) first
opened_room n r first room opened some =
    let o = opened (λ z. some (state-addresses n [] ∙ z)) in
    let h = room r.spec n r.start o.ranges some in
    subst (λ es. length (state_of n []).holdings + length (each_row created_by es) ≤ 20500) (sym o.entries) h

-- the book of the entries
pub first_book : (n : ℕ) (first : List Entry) (book next : BookState) → book ≡ state_of n [] → next.addresses ≡ book.addresses → ((c : Trace) → IsBookOf book c → IsBookOf next (c ++ first)) → next ≡ state_of n first
first_book n first book next is addresses goes = goes [] (is ∙ ap (λ m. state_of m []) (sym same)) ∙ ap (λ m. state_of m first) (addresses ∙ same)
  where
    same : book.addresses ≡ n
    same = first-addresses n [] book is

-- some trace is stood for
pub has_book : (book : BookState) (r : RevisionState) → IsBookFor book r → StandsForSome r → HasBook book r
has_book book r is some = record { ranges = is.ranges; some = ∥∥₁_map some (λ p. (p.0, p.1, is.stands p.0 p.1)) }

-- ---- an event

-- there is room for what it adds
pub has_room : (book : BookState) (r : RevisionState) (e : Event) (log : List Entry)
    → ((s : Spec) (c : Trace) → AreInRange s → IsMade s c → IsSettled s c → HasRoomNext s c)
    → ((s : Spec) (start clock count : ℕ) (c : Trace) → IsMadeBy s start clock count c → IsSettled s c)
    → HasBook book r → ((c : Trace) → StandsFor r c → log ≡ react r.spec c e) → HasRoom book log
has_room book r e log room settled has logged some =
    ∥∥₁_elim has.some le_prop (λ p.
    let s = p.1 in
    let h = room r.spec p.0 (has.ranges some) s.parts.made (settled r.spec r.start r.clock r.events p.0 s.events) book e p.2 some in
    subst (λ es. length book.holdings + length (each_row created_by es) ≤ 20500) (sym (logged p.0 s)) h)

-- and it is the book of the trace after it
pub has_next : (book next : BookState) (r after : RevisionState) (e : Event) (log : List Entry) → HasBook book r → next.addresses ≡ book.addresses → after.spec ≡ r.spec
    → ((c : Trace) → StandsFor r c → log ≡ react r.spec c e) → ((c : Trace) → StandsFor r c → StandsFor after (c ++ react r.spec c e)) → ((c : Trace) → IsBookOf book c → IsBookOf next (c ++ log))
    → HasBook next after
has_next book next r after e log has addresses spec logged stands goes = record {
  ranges = λ some. subst AreInRange (sym spec) (has.ranges (λ z. some (addresses ∙ z)));
  some = ∥∥₁_map has.some (λ p. (p.0 ++ react r.spec p.0 e, stands p.0 p.1, next_of p.0 p.1 p.2));
}
  where
    next_of : (c : Trace) → StandsFor r c → IsBookOf book c → IsBookOf next (c ++ react r.spec c e)
    next_of c s is = subst (λ es. IsBookOf next (c ++ es)) (logged c s) (goes c is)
