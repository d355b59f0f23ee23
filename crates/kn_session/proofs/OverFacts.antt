-- A session over a cell: its passes from the opening on, and what it comes to.
use Rattle.std.proofs.Common.{◌≡◌, inl, inr, ◌<◌, ◌+◌, ◌-◌, ◌*◌, ◌≤◌, Bool, ℕ, List, [], ◌++◌, true, refl, sym, ap, ◌∙◌, subst, length, arith}
use Rattle.std.specs.Prelude.{Option, Some, slice_index_or, ⊤}
use Rattle.std.proofs.lemmas.Bool.{cases_lt}
use Rattle.atomic_table.specs.Seated.{TableId}
use Rattle.kn_event.specs.declared.revision.Spec.{Spec}
use Rattle.kn_event.specs.Lists.{EachIs}
use Rattle.kn_core.specs.State.{RevisionState}
use Rattle.kn_cell.specs.declared.past.Past.{Past}
use Rattle.kn_cell.specs.Lists.{Each, StartsWith}
use Rattle.kn_cell.specs.Shown.{PassView, joined_shown, new_shown}
use Rattle.kn_io.specs.Links.{Link}
use Rattle.kn_request.specs.declared.slot.Slot.{Slot}
use Rattle.kn_request.specs.Terms.{Terms, watched}
use Rattle.kn_request.specs.Wide.{TicksOf}
use Rattle.kn_session.specs.Attending.{ClosesAll, first_of}
use Rattle.kn_session.specs.Lasting.{Lasted, SlotLasted}
use Rattle.kn_session.specs.Laws.{SessionLaws}
use Rattle.kn_session.specs.Lists.{EachDone}
use Rattle.kn_session.specs.Passes.{HasLone, IsBlank, IsEmptied, IsFirst, IsGiven, IsGivenOf, IsKept, IsNewOf, IsUnmarked, Kind, kind_of, plain_kind}
use Rattle.kn_session.specs.Rounds.{AllRounds, HasTexts, IsPaced, Sides}
use Rattle.kn_session.specs.Session.{IsClosedAs, IsFine, SlotServed}
use Rattle.kn_session.proofs.CloseFacts.{DidNothing}
use Rattle.kn_session.proofs.EndingFacts.{rounds_fine, short_whole}
use Rattle.kn_session.proofs.HandFacts.{IsScribe, joined_last, joined_step, scribe_joined}
use Rattle.kn_session.proofs.ListFacts.{none}
use Rattle.kn_session.proofs.Nexts.{IsNext, rounds_next}
use Rattle.kn_session.proofs.OwnFacts.{rounds_own}
use Rattle.kn_session.proofs.SeenFacts.{Seen, seen_alone, seen_fine}
use Rattle.kn_session.proofs.SessionFacts.{new_as, slot_lasted}

-- ---- the first pass

-- the first pass of a new cell, when it can still give so many away
pub record IsOpened (cell : TableId) (k : Kind) (many left : ℕ) (p : PassView) : Type 0 where
  pub of : p.cell ≡ cell
  pub named : p.number ≡ 0
  pub free : p.free ≡ left
  pub back : p.back ≡ 0
  pub seen : p.seen ≡ []
  pub mine : p.mine ≡ []
  pub others : p.others ≡ []
  pub kind : kind_of p ≡ k
  pub passes : p.passes ≡ many
  pub whole : p.gone ≡ 0
  pub scribe : p.scribe ≡ k.lasting

pub opened_first : (cell : TableId) (k : Kind) (n : ℕ) (p : PassView) → p ≡ first_of cell k n → IsOpened cell k n (n - 1) p
opened_first cell k n p is = record {
  of = ap (λ (v : PassView). v.cell) is;
  named = ap (λ (v : PassView). v.number) is;
  free = ap (λ (v : PassView). v.free) is;
  back = ap (λ (v : PassView). v.back) is;
  seen = ap (λ (v : PassView). v.seen) is;
  mine = ap (λ (v : PassView). v.mine) is;
  others = ap (λ (v : PassView). v.others) is;
  kind = ap kind_of is;
  passes = ap (λ (v : PassView). v.passes) is;
  whole = ap (λ (v : PassView). v.gone) is;
  scribe = ap (λ (v : PassView). v.scribe) is;
}

pub opened_gave : (cell : TableId) (k : Kind) (n f m : ℕ) (p q : PassView) → IsOpened cell k n f p → q ≡ record p { free = p.free - m } → IsOpened cell k n (f - m) q
opened_gave cell k n f m p q x is = record {
  of = ap (λ (v : PassView). v.cell) is ∙ x.of;
  named = ap (λ (v : PassView). v.number) is ∙ x.named;
  free = ap (λ (v : PassView). v.free) is ∙ ap (λ e. e - m) x.free;
  back = ap (λ (v : PassView). v.back) is ∙ x.back;
  seen = ap (λ (v : PassView). v.seen) is ∙ x.seen;
  mine = ap (λ (v : PassView). v.mine) is ∙ x.mine;
  others = ap (λ (v : PassView). v.others) is ∙ x.others;
  kind = ap kind_of is ∙ x.kind;
  passes = ap (λ (v : PassView). v.passes) is ∙ x.passes;
  whole = ap (λ (v : PassView). v.gone) is ∙ x.whole;
  scribe = ap (λ (v : PassView). v.scribe) is ∙ x.scribe;
}

pub opened_blank : (cell : TableId) (k : Kind) (n f : ℕ) (p : PassView) → IsOpened cell k n f p → IsBlank p
opened_blank cell k n f p x = record { unseen = x.seen; whole = x.whole }

-- what it gives away
pub opened_new : (cell : TableId) (k : Kind) (n f number : ℕ) (p q : PassView) → IsOpened cell k n f p → q ≡ new_shown p → n - f ≡ number → IsNewOf k number q
opened_new cell k n f number p q x is e = record {
  named = (let a = ap (λ (v : PassView). v.number) is in let b = x.passes in let c = x.free in omega arith);
  free = ap (λ (v : PassView). v.free) is;
  back = ap (λ (v : PassView). v.back) is;
  seen = ap (λ (v : PassView). v.seen) is ∙ x.seen;
  mine = ap (λ (v : PassView). v.mine) is;
  others = ap (λ (v : PassView). v.others) is;
  kind = ap kind_of is ∙ x.kind;
  whole = ap (λ (v : PassView). v.gone) is ∙ x.whole;
  reader = ap (λ (v : PassView). v.scribe) is;
}

-- when it has given all away
pub opened_last : (cell : TableId) (k : Kind) (n f : ℕ) (p : PassView) → IsOpened cell k n f p → f ≡ 0 → IsFirst k p
opened_last cell k n f p x e = record {
  named = x.named;
  free = x.free ∙ e;
  back = x.back;
  seen = x.seen;
  mine = x.mine;
  others = x.others;
  kind = x.kind;
  whole = x.whole;
  scribe = x.scribe;
}

-- .. all the while: it gave away the ticker's pass, those of so many slots, and the page's
pub record Gives (cell : TableId) (k : Kind) (n : ℕ) (ticking last ticks pages : PassView) : Type 0 where
  pub of : ticking.cell ≡ cell
  pub room : ticking.free ≡ n + 1
  pub passes : ticking.passes ≡ 3 + n
  pub blank : IsBlank ticking
  pub kind : kind_of ticking ≡ k
  pub last_of : last.cell ≡ cell
  pub last_passes : last.passes ≡ 3 + n
  pub first : IsFirst k last
  pub ticks_of : ticks.cell ≡ cell
  pub fresh : IsNewOf k 1 ticks
  pub pages_of : pages.cell ≡ cell
  pub page : IsNewOf k (2 + n) pages

pub gives_of : (cell : TableId) (k : Kind) (n : ℕ) (f0 f1 f2 f3 ticks pages : PassView) → f0 ≡ first_of cell k (3 + n) → f1 ≡ record f0 { free = f0.free - 1 } → ticks ≡ new_shown f0
    → f2 ≡ record f1 { free = f1.free - n } → f3 ≡ record f2 { free = f2.free - 1 } → pages ≡ new_shown f2 → Gives cell k n f1 f3 ticks pages
gives_of cell k n f0 f1 f2 f3 ticks pages e0 e1 t e2 e3 p =
    let a = opened_first cell k (3 + n) f0 e0 in
    let b = opened_gave cell k (3 + n) (3 + n - 1) 1 f0 f1 a e1 in
    let c = opened_gave cell k (3 + n) (3 + n - 1 - 1) n f1 f2 b e2 in
    let d = opened_gave cell k (3 + n) (3 + n - 1 - 1 - n) 1 f2 f3 c e3 in
    record {
      of = b.of;
      room = b.free ∙ omega arith;
      passes = b.passes;
      blank = opened_blank cell k (3 + n) (3 + n - 1 - 1) f1 b;
      kind = b.kind;
      last_of = d.of;
      last_passes = d.passes;
      first = opened_last cell k (3 + n) (3 + n - 1 - 1 - n - 1) f3 d (omega arith);
      ticks_of = ap (λ (v : PassView). v.cell) t ∙ a.of;
      fresh = opened_new cell k (3 + n) (3 + n - 1) 1 f0 ticks a t (omega arith);
      pages_of = ap (λ (v : PassView). v.cell) p ∙ c.of;
      page = opened_new cell k (3 + n) (3 + n - 1 - 1 - n) (2 + n) f2 pages c p (omega arith);
    }

-- what the slots got of it
pub given_of : {C L : Type 0} (cell : TableId) (k : Kind) (n : ℕ) (f1 : PassView) (slots mids : List (Slot C L)) → kind_of f1 ≡ k → f1.passes ≡ 3 + n → f1.free ≡ n + 1 → EachDone (IsGivenOf cell f1) slots mids
    → EachDone (λ i s t. IsGiven cell (IsNewOf k (2 + i)) s t) slots mids
given_of {C} {L} cell k n f1 slots mids kind passes free all = (
  all.0,
  λ i d low.
      let x = all.1 i d low in
      let e : f1.passes - f1.free + i ≡ 2 + i = omega arith in
      ((x.0.0, x.0.1, x.0.2, new_as (kind_of f1) k (f1.passes - f1.free + i) (2 + i) x.0.0 kind e x.0.3), x.1),
)

-- .. and the first pass at the end, which went on, took the page's in, and knows how many rows were taken out
pub record CanClose (cell : TableId) (k : Kind) (n : ℕ) (before p : PassView) : Type 0 where
  pub of : p.cell ≡ cell
  pub named : p.number ≡ 0
  pub mine : p.mine ≡ []
  pub others : Each (λ o. o.mine ≡ []) p.others
  pub all : 1 + p.free + p.back + 1 + n ≡ p.passes
  pub kind : kind_of p ≡ k
  pub seen : p.seen ≡ before.seen
  pub scribe : k.lasting ≡ true → IsScribe before.gone p

pub can_close : (cell : TableId) (k : Kind) (n : ℕ) (f1 f3 f4 f5 ticks pages pages' : PassView) → Gives cell k n f1 f3 ticks pages → IsNext f3 f4 → f4.mine ≡ f3.mine → IsNext pages pages' → pages'.mine ≡ pages.mine
    → f5 ≡ joined_shown f4 pages' → CanClose cell k n f4 f5
can_close cell k n f1 f3 f4 f5 ticks pages pages' g next mine next' mine' is =
    let none : Each DidNothing f4.others = subst (Each DidNothing) (sym (next.others ∙ g.first.others)) (none DidNothing) in
    let others : Each DidNothing (joined_shown f4 pages').others = joined_step DidNothing f4 pages' none (next'.others ∙ g.page.others) (mine' ∙ g.page.mine) in
    let full : 1 + (joined_shown f4 pages').free + (joined_shown f4 pages').back + 1 + n ≡ (joined_shown f4 pages').passes =
    (let a = next.free ∙ g.first.free in
    let b = next.back ∙ g.first.back in
    let c = next.passes ∙ g.last_passes in
    let d = next'.free ∙ g.page.free in
    let e = next'.back ∙ g.page.back in
    omega arith) in
    record {
      of = ap (λ (v : PassView). v.cell) is ∙ (next.cell ∙ g.last_of);
      named = ap (λ (v : PassView). v.number) is ∙ (next.number ∙ g.first.named);
      mine = ap (λ (v : PassView). v.mine) is ∙ (mine ∙ g.first.mine);
      others = subst (λ (v : PassView). Each DidNothing v.others) (sym is) others;
      all = subst (λ (v : PassView). 1 + v.free + v.back + 1 + n ≡ v.passes) (sym is) full;
      kind = ap kind_of is ∙ (next.kind ∙ g.first.kind);
      seen = ap (λ (v : PassView). v.seen) is;
      scribe = λ e. subst (IsScribe f4.gone) (sym is) (scribe_joined f4.gone f4 pages' (record { scribe = next.scribe ∙ (g.first.scribe ∙ e); exact = refl }));
    }

-- what the page's pass saw, of those that the first pass took in
pub last_seen : (h : List Past) (f4 f5 pages' : PassView) → f5 ≡ joined_shown f4 pages' → Each (λ o. StartsWith h o.seen) f5.others → StartsWith h pages'.seen
last_seen h f4 f5 pages' is all = (joined_last (λ o. StartsWith h o.seen) f4 pages' (subst (λ (v : PassView). Each (λ o. StartsWith h o.seen) v.others) is all)).1

-- ---- the slots and the ticker

-- the slots got their passes, were served, and gave them back; the ticker ticked; and the first pass closed the cell
pub record Ran {C L : Type 0} (at : Slot C L → Sides) (terms : ℕ → ℕ → Terms) (Paced : ℕ → Type 0) (reading : ℕ → Type 0) (spec : Spec) (apart start : ℕ) (k : Kind) (w w' : Option Link) (n n' : ℕ) (slots slots' : List (Slot C L)) (now : RevisionState) (rest : List Past) : Type 0 where
  pub cell : TableId
  pub first : PassView
  pub ticks : PassView
  pub ticks' : PassView
  pub mids : List (Slot C L)
  pub ends : List (Slot C L)
  pub given : EachDone (λ i s t. IsGiven cell (IsNewOf k (2 + i)) s t) slots mids
  pub served : EachDone (λ i s t. (p : PassView) → s.work.pass ≡ Some p → (q : PassView) × (t.work.pass ≡ Some q) × (q.cell ≡ p.cell)
      × ((m : ℕ) × Paced m × AllRounds (λ _. ⊤) terms spec (i * apart) m p q (at s) (at t) t.work.fault t.work.memory)) mids ends
  pub emptied : EachDone (λ i s t. IsEmptied s t) ends slots'
  pub fresh : IsNewOf k 1 ticks
  pub ticked : TicksOf reading start ticks ticks' w w' n n'
  pub kind : kind_of first ≡ k
  pub closes : ClosesAll first ticks' ends now rest
  pub same : (s t : Slot C L) → IsKept s t → at t ≡ at s

-- the rounds of one slot, between the pass that it got and the one that it gave back
record Share {C L : Type 0} (at : Slot C L → Sides) (terms : ℕ → ℕ → Terms) (Paced : ℕ → Type 0) (spec : Spec) (apart : ℕ) (k : Kind) (cell : TableId) (i : ℕ) (s m e : Slot C L) : Type 0 where
  old : PassView
  new : PassView
  count : ℕ
  fresh : IsNewOf k (2 + i) old
  of : old.cell ≡ cell
  is : e.work.pass ≡ Some new
  paced : Paced count
  all : AllRounds (λ _. ⊤) terms spec (i * apart) count old new (at m) (at e) e.work.fault e.work.memory
  kept : IsKept s m

-- a slot that was served gives its own pass back
pub given_lone : {C L : Type 0} (at : Slot C L → Sides) (terms : ℕ → ℕ → Terms) (Paced : ℕ → Type 0) (spec : Spec) (tag number : ℕ) (k : Kind) (cell : TableId) (m e : Slot C L)
    → (p : PassView) → m.work.pass ≡ Some p → p.cell ≡ cell → IsNewOf k number p
    → ((p : PassView) → m.work.pass ≡ Some p → (q : PassView) × (e.work.pass ≡ Some q) × (q.cell ≡ p.cell) × ((c : ℕ) × Paced c × AllRounds (λ _. ⊤) terms spec tag c p q (at m) (at e) e.work.fault e.work.memory))
    → HasLone cell number e.work.pass
given_lone {C} {L} at terms Paced spec tag number k cell m e p is of new served =
    let y = served p is in
    let x = rounds_next (λ _. ⊤) terms spec tag y.3.2.endings p y.0 (at m) (at e) y.3.2.rounds in
    (y.0, y.1, record { of = y.2 ∙ of; named = x.number ∙ new.named; free = x.free ∙ new.free; back = x.back ∙ new.back; others = x.others ∙ new.others })

module _ {C L : Type 0} (at : Slot C L → Sides) (terms : ℕ → ℕ → Terms) (Paced : ℕ → Type 0) (reading : ℕ → Type 0) (spec : Spec) (apart start : ℕ) (k : Kind) (w w' : Option Link) (n n' : ℕ) (slots slots' : List (Slot C L)) (now : RevisionState) (rest : List Past)
    (x : Ran at terms Paced reading spec apart start k w w' n n' slots slots' now rest) where
  history : List Past
  history = x.closes.front ++ rest

  share : (i : ℕ) (d : Slot C L) → i < length slots → Share at terms Paced spec apart k x.cell i (slice_index_or slots i d) (slice_index_or x.mids i d) (slice_index_or x.ends i d)
  share i d low =
      let len = x.given.0 in
      let g = x.given.1 i d low in
      let y = x.served.1 i d (omega (arith, low, len)) g.0.0 g.0.1 in
      record { old = g.0.0; new = y.0; count = y.3.0; fresh = g.0.3; of = g.0.2; is = y.1; paced = y.3.1; all = y.3.2; kept = g.1 }

  inside : (i : ℕ) → i < length x.ends → i < length slots
  inside i low = let a = x.given.0 in let b = x.served.0 in omega arith

  pub ran_seen : Seen (λ (s : Slot C L). s.work.pass) x.ends reading k start w w' n n' (x.closes.front ++ rest)
  ran_seen = record {
    old = x.ticks;
    new = x.ticks';
    fresh = x.fresh;
    ticks = x.ticked;
    revision = now;
    closed = subst (λ (v : Kind). IsClosedAs v.opening now (x.closes.front ++ rest)) x.kind x.closes.closed;
    ticker = x.closes.ticker;
    kept = λ i d low. x.closes.kept i d low;
    rows = x.closes.rows;
    asks = λ i d low. (let y = share i d (inside i low) in record { old = y.old; new = y.new; is = y.is; none = y.fresh.mine; own = rounds_own (λ _. ⊤) terms spec (i * apart) y.all.endings y.old y.new _ _ y.all.rounds });
  }

  pub ran_count : length x.ends ≡ length slots
  ran_count = x.served.0 ∙ x.given.0

  pub ran_slots : SessionLaws → EachDone (λ i s t. SlotLasted k terms Paced spec (i * apart) (x.closes.front ++ rest) i (at s) (at t) t.work.fault t.work.memory) slots slots'
  ran_slots laws =
      let a = x.given.0 in
      let b = x.served.0 in
      let c = x.emptied.0 in (
        omega arith,
        λ i d low.
            let low' : i < length x.ends = omega arith in
            let y = share i d low in
            let z = x.emptied.1 i d low' in
            slot_lasted laws k terms Paced spec (i * apart) y.count (x.closes.front ++ rest) i y.old y.new (at (slice_index_or slots i d)) (at (slice_index_or x.mids i d)) (at (slice_index_or x.ends i d)) (at (slice_index_or slots' i d))
            _ _ _ _ (seen_alone (λ (s : Slot C L). s.work.pass) x.ends reading k start w w' n n' (x.closes.front ++ rest) ran_seen laws) y.fresh y.paced y.all
            (x.same (slice_index_or slots i d) (slice_index_or x.mids i d) y.kept) (x.same (slice_index_or x.ends i d) (slice_index_or slots' i d) z.1) z.1.fault z.1.memory
            (x.closes.kept i d low' y.new y.is),
      )

  pub ran_fine : EachIs (λ t. IsUnmarked t.work) slots' → Each IsFine (x.closes.front ++ rest)
  ran_fine flags = seen_fine (λ (s : Slot C L). s.work.pass) x.ends reading k start w w' n n' (x.closes.front ++ rest) ran_seen (λ i d low.
      let c = x.emptied.0 in
      let y = share i d (inside i low) in
      let z = x.emptied.1 i d low in
      let flag = flags i d (omega (arith, c, low)) in
      let grown = rounds_fine (λ _. ⊤) terms spec (i * apart) y.all.endings y.old y.new _ _ (sym y.all.faulty ∙ (sym z.1.fault ∙ flag.0)) (sym y.all.wanting ∙ (sym z.1.memory ∙ flag.1)) y.all.rounds in
      (y.new, y.is, subst (Each IsFine) (sym (grown.mine ∙ ap (λ l. l ++ grown.rows) y.fresh.mine)) grown.fine))

-- ---- a session by its kind of cell

pub lasted_as : {slots : ℕ} {now : RevisionState} {rest : List Past} {Slots Keeper : Kind → List Past → Type 0} {Unmarked : Type 0} {Scribe Page : PassView → PassView → Type 0} (k k' : Kind) → k ≡ k'
    → Lasted k slots now rest Slots Keeper Unmarked Scribe Page → Lasted k' slots now rest Slots Keeper Unmarked Scribe Page
lasted_as {slots} {now} {rest} {Slots} {Keeper} {Unmarked} {Scribe} {Page} k k' e x = subst (λ (v : Kind). Lasted v slots now rest Slots Keeper Unmarked Scribe Page) e x

-- a new cell's first pass, by its own kind
pub first_as : (cell : TableId) (k : Kind) (n m : ℕ) (p : PassView) → p ≡ first_of cell k n → n ≡ m → p ≡ first_of cell (kind_of p) m
first_as cell k n m p is e = subst (λ i. p ≡ first_of cell (kind_of p) i) e (subst (λ v. p ≡ first_of cell v n) (sym (ap kind_of is)) is)

-- a slot that goes so many rounds, over a cell whose history is kept whole
pub slot_as : (reading : ℕ → Type 0) (spec : Spec) (b : RevisionState) (room rounds : ℕ) (h : List Past) (i : ℕ) (from to : Sides) (fault memory : Bool)
    → SlotLasted (plain_kind b room) (watched reading ⊥) (IsPaced (λ n. n < rounds) (λ n. rounds ≤ n)) spec (i * rounds) h i from to fault memory → SlotServed reading spec b room rounds h i from to fault memory
slot_as reading spec b room rounds h i from to fault memory x =
    let most : x.count ≤ rounds = elim (cases_lt rounds x.count) [
      | inl low ↦ (let over = x.paced.0 rounds low in omega (arith, over))
      | inr least ↦ least
    ] in
    let n : x.count ≡ rounds = (let b = x.paced.1 in omega (arith, most, b)) in
    record {
      first = x.first;
      last = x.last;
      fresh = x.fresh;
      all = record { endings = x.all.endings; all = x.all.all ∙ n; rounds = x.all.rounds; faulty = x.all.faulty; wanting = x.all.wanting };
      part = x.part;
      texts = λ e. subst (λ m. HasTexts m from.said to.said) n (x.texts e);
      full = λ has. short_whole b room h (x.full has);
      cause = x.cause;
    }
