-- What the history of a closed cell is to the first pass, to those that it took in, and to the ticker's.
use Rattle.std.proofs.Common.{◌≡◌, ◌⊎◌, ◌<◌, ◌+◌, inl, inr, ℕ, false, List, [], ◌++◌, refl, sym, ap, ◌∙◌, subst, length, arith}
use Rattle.std.specs.Prelude.{Option, Some, slice_index_or}
use Rattle.atomic_table.specs.Seated.{TableId}
use Rattle.kn_core.specs.State.{RevisionState}
use Rattle.kn_cell.specs.declared.past.Past.{Past}
use Rattle.kn_cell.specs.declared.view.Joined.{Joined}
use Rattle.kn_cell.specs.Lists.{Each, StartsWith}
use Rattle.kn_cell.specs.History.{rows_by}
use Rattle.kn_cell.specs.Shown.{ClosesCell, IsClosed, PassView, joined_shown}
use Rattle.kn_request.specs.declared.slot.Slot.{Slot}
use Rattle.kn_session.specs.Attending.{ClosesAll}
use Rattle.kn_session.specs.Passes.{HasLone, IsLone, Kind, found_by, joined_all}
use Rattle.kn_session.specs.Session.{ClosesWhole, IsClosedAs, IsPart, IsSlots}
use Rattle.kn_session.proofs.HandFacts.{all_found, as_other, found_member, joined_back, joined_each, joined_last, joined_members, joined_same, joined_step, scribe_all, scribe_joined}
use Rattle.kn_session.proofs.SessionFacts.{has_none}

-- the slots' passes by their numbers
abbrev pub AreLone : {A : Type 0} → TableId → (A → Option PassView) → List A → Type 0
AreLone {A} cell f xs = (i : ℕ) (d : A) → i < length xs → HasLone cell (2 + i) (f (slice_index_or xs i d))

-- the pass that closes the cell
abbrev pub closing : {A : Type 0} → (A → Option PassView) → List A → PassView → PassView → PassView
closing {A} f xs p ticks = joined_shown (joined_all p (found_by f xs)) ticks

pub closing_full : {A : Type 0} (cell : TableId) (f : A → Option PassView) (xs : List A) (p ticks : PassView) → AreLone cell f xs → IsLone cell 1 ticks → 1 + p.free + p.back + 1 + length xs ≡ p.passes
    → 1 + (closing f xs p ticks).free + (closing f xs p ticks).back ≡ (closing f xs p ticks).passes
closing_full {A} cell f xs p ticks lone last all =
    let qs = found_by f xs in
    let same = joined_same p qs in
    let found = all_found f (λ q. (q.free ≡ 0) × (q.back ≡ 0)) xs (λ i d low. let x = lone i d low in (x.0, x.1, (x.2.free, x.2.back))) in
    let e = same.free in
    let e' = same.passes in
    let b = joined_back p qs found.0 in
    let n = found.1 in
    let zero = last.free in
    let zero' = last.back in
    omega arith

pub closing_kept : {A : Type 0} (cell : TableId) (f : A → Option PassView) (xs : List A) (p ticks : PassView) (now : RevisionState) (h : List Past) → AreLone cell f xs → ClosesCell (closing f xs p ticks) now h
    → (i : ℕ) (d : A) → i < length xs → (q : PassView) → f (slice_index_or xs i d) ≡ Some q → IsPart h (2 + i) q
closing_kept {A} cell f xs p ticks now h lone closes i d low q is =
    let P : Joined → Type 0 = λ o. StartsWith h o.seen × (o.mine ≡ rows_by o.number h) in
    let qs = found_by f xs in
    let x = joined_last P (joined_all p qs) ticks closes.others in
    let m = (joined_members P p qs x.0).1 in
    let z = found_member f (λ v. P (as_other v)) xs m i d q low is in
    let it = lone i d low in
    let same : q ≡ it.0 = (let e = is in let e' = it.1 in cc) in
    let named : q.number ≡ 2 + i = ap (λ (v : PassView). v.number) same ∙ it.2.named in
    record { named = named; front = z.0; whole = z.1 ∙ ap (λ n. rows_by n h) named }

pub closing_ticker : {A : Type 0} (f : A → Option PassView) (xs : List A) (p ticks : PassView) (now : RevisionState) (h : List Past) → ticks.number ≡ 1 → ClosesCell (closing f xs p ticks) now h → IsPart h 1 ticks
closing_ticker {A} f xs p ticks now h named closes =
    let P : Joined → Type 0 = λ o. StartsWith h o.seen × (o.mine ≡ rows_by o.number h) in
    let z = (joined_last P (joined_all p (found_by f xs)) ticks closes.others).1 in
    record { named = named; front = z.0; whole = z.1 ∙ ap (λ n. rows_by n h) named }

-- a pass that was taken in recorded nothing
abbrev pub DidNothing : Joined → Type 0
DidNothing o = o.mine ≡ []

pub closing_rows : {A : Type 0} (cell : TableId) (f : A → Option PassView) (xs : List A) (p ticks : PassView) (now : RevisionState) (h : List Past) → AreLone cell f xs → IsLone cell 1 ticks
    → p.number ≡ 0 → p.mine ≡ [] → Each DidNothing p.others → ClosesCell (closing f xs p ticks) now h → Each (λ x. (x.pass ≡ 1) ⊎ IsSlots (length xs) x) h
closing_rows {A} cell f xs p ticks now h lone last number mine others closes k x at =
    let qs = found_by f xs in
    let N : Joined → Type 0 = λ o. DidNothing o ⊎ ((o.number ≡ 1) ⊎ ((i : ℕ) × (i < length xs) × (o.number ≡ 2 + i))) in
    let found = (all_found f (λ q. (q.others ≡ []) × N (as_other q)) xs (λ i d low. let y = lone i d low in (y.0, y.1, (y.2.others, inr (inr (i, low, y.2.named)))))).0 in
    let taken : Each N (joined_all p qs).others = joined_each N p qs (λ j o there. inl (others j o there)) found in
    let all : Each N (closing f xs p ticks).others = joined_step N (joined_all p qs) ticks taken last.others (inr (inl last.named)) in
    let same = joined_same p qs in
    let zero : (closing f xs p ticks).number ≡ 0 = same.number ∙ number in
    let nothing : (closing f xs p ticks).mine ≡ [] = same.mine ∙ mine in
    let rows : rows_by 0 h ≡ [] = ap (λ n. rows_by n h) (sym zero) ∙ (sym closes.mine ∙ nothing) in
    elim (closes.numbers k x at) [
      | inl e ↦ has_none h (length xs) 0 k x at rows (e ∙ zero)
      | inr o ↦ elim (all o.0 o.1 o.2) [
        | inl none ↦ has_none h (length xs) o.1.number k x at (sym (closes.others o.0 o.1 o.2).1 ∙ none) o.3
        | inr n ↦ elim n [ inl e ↦ inl (o.3 ∙ e) | inr e ↦ inr (e.0, e.1, o.3 ∙ e.2) ]
      ]
    ]

-- where no row was taken out, the history is what is left
pub closed_whole : (p : PassView) (now : RevisionState) (h : List Past) → p.lasting ≡ false → IsClosed p now h → ClosesWhole p now h
closed_whole p now h plain x = subst (λ (front : List Past). ClosesWhole p now (front ++ h)) (x.plain plain) record { closes = x.closes; lawful = x.lawful; settled = x.settled }

-- .. as a history of the pass's revision
pub whole_as : (p : PassView) (now : RevisionState) (h : List Past) → ClosesWhole p now h → IsClosedAs p.opening now h
whole_as p now h x = record {
  legal = x.closes.legal;
  bounds = x.closes.bounds;
  after = record { spec = x.closes.spec; start = x.closes.start; clock = x.closes.clock; events = x.closes.events; stands = x.closes.stands };
  lawful = x.lawful;
  settled = x.settled;
}

pub closing_opening : {A : Type 0} (f : A → Option PassView) (xs : List A) (p ticks : PassView) → (closing f xs p ticks).opening ≡ p.opening
closing_opening {A} f xs p ticks = ap (λ (k : Kind). k.opening) (joined_same p (found_by f xs)).kind

-- the whole of it, where rows may have been taken out
pub closes_all : {C L : Type 0} (cell : TableId) (xs : List (Slot C L)) (p ticks : PassView) (now : RevisionState) (rest : List Past) → AreLone cell (λ (s : Slot C L). s.work.pass) xs → IsLone cell 1 ticks
    → p.number ≡ 0 → p.mine ≡ [] → Each (λ o. o.mine ≡ []) p.others → IsClosed (closing (λ (s : Slot C L). s.work.pass) xs p ticks) now rest → ClosesAll p ticks xs now rest
closes_all {C} {L} cell xs p ticks now rest lone last number mine others x =
    let f : Slot C L → Option PassView = λ s. s.work.pass in
    let qs = found_by f xs in
    let h = x.front ++ rest in
    let same = joined_same p qs in
    let P : Joined → Type 0 = λ o. StartsWith h o.seen × (o.mine ≡ rows_by o.number h) in
    let theirs = (joined_members P p qs (joined_last P (joined_all p qs) ticks x.closes.others).0).0 in
    let closed : IsClosedAs (closing f xs p ticks).opening now h = whole_as (closing f xs p ticks) now h (record { closes = x.closes; lawful = x.lawful; settled = x.settled }) in
    record {
      front = x.front;
      plain = λ e. x.plain (ap (λ (k : Kind). k.lasting) same.kind ∙ e);
      exact = λ e. (let s = scribe_joined p.gone (joined_all p qs) ticks (scribe_all p.gone p qs (record { scribe = e; exact = refl })) in x.exact s.scribe ∙ s.exact);
      closed = subst (λ (b : RevisionState). IsClosedAs b now h) (closing_opening f xs p ticks) closed;
      kept = closing_kept cell f xs p ticks now h lone x.closes;
      ticker = closing_ticker f xs p ticks now h last.named x.closes;
      rows = closing_rows cell f xs p ticks now h lone last number mine others x.closes;
      seen = subst (StartsWith h) same.seen x.closes.seen;
      others = λ k o at. (theirs k o at).0;
    }
