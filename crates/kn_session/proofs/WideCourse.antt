-- A whole session over several revisions, and what one of them sees of it.
use Rattle.std.proofs.Common.{◌≡◌, ◌<◌, ◌+◌, ◌-◌, ◌*◌, inr, ℕ, List, [], ◌++◌, sym, ap, ◌∙◌, subst, length, map, take, drop, arith}
use Rattle.std.specs.Prelude.{Option, None, Some, slice_index_or, ⊤}
use Rattle.std.proofs.lemmas.List.{get_or-map}
use Rattle.atomic_table.specs.Seated.{TableId}
use Rattle.kn_event.specs.declared.revision.Spec.{Spec}
use Rattle.kn_core.specs.State.{RevisionState}
use Rattle.kn_cell.specs.declared.past.Past.{Past}
use Rattle.kn_cell.specs.Lists.{Each}
use Rattle.kn_cell.specs.Shown.{PassView, first_shown, joined_shown}
use Rattle.kn_io.specs.Links.{Link}
use Rattle.kn_request.specs.declared.slot.Ended.{Ended}
use Rattle.kn_request.specs.declared.slot.WideSlot.{WideSlot}
use Rattle.kn_request.specs.declared.slot.Work.{Work}
use Rattle.kn_request.specs.Terms.{unwatched}
use Rattle.kn_request.specs.Wide.{ArePassesOf, TicksOf, at_count, at_pass, at_wire, passes_in}
use Rattle.kn_session.specs.Laws.{SessionLaws}
use Rattle.kn_session.specs.Passes.{IsLone, IsNewOf, Kind, found_by, kind_of, plain_kind}
use Rattle.kn_session.specs.Rounds.{IsRounds}
use Rattle.kn_session.specs.Session.{IsClosedAs}
use Rattle.kn_session.specs.Wide.{WideSides, at_history}
use Rattle.kn_session.specs.WidePasses.{AreShut, AreOpen, EachMayGive, HasRun, HasSame, HaveTicked, IsShut, IsOpen, MayCloseAll, SlotRan, gave, pass_at}
use Rattle.kn_session.proofs.Nexts.{next_of, rounds_next}
use Rattle.kn_session.proofs.OwnFacts.{rounds_own}
use Rattle.kn_session.proofs.CloseFacts.{AreLone, DidNothing, closing, closing_full, closing_kept, closing_opening, closing_rows, closing_ticker, whole_as}
use Rattle.kn_session.proofs.HandFacts.{joined_same}
use Rattle.kn_session.proofs.PlaceFacts.{lent}
use Rattle.kn_session.proofs.ListFacts.{none}
use Rattle.kn_session.proofs.SeenFacts.{Asks, Seen}
use Rattle.kn_session.proofs.SessionFacts.{new_as, some_of}
use Rattle.kn_session.proofs.ShareFacts.{ending_at, rounds_at, side_at}

-- all that was done, from the opening of the cells until the passes came back
pub record Way {C L : Type 0} (at : WideSlot C L → WideSides) (reading : ℕ → Type 0) (specs : List Spec) (bs : List RevisionState) (room rounds start : ℕ) (slots slots' : List (WideSlot C L)) (ws ws' : List (Option Link)) (ks ks' : List ℕ) : Type 0 where
  pub cells : List TableId
  pub firsts : List PassView
  pub ticks : List PassView
  pub firsts' : List PassView
  pub ticks' : List PassView
  pub opened : AreOpen bs room (length slots + 2) cells firsts ticks
  pub run : HasRun at reading cells specs rounds firsts firsts' slots slots'
  pub ticked : HaveTicked reading start ticks ticks' ws ws' ks ks'
  pub count : length bs ≡ length specs
  pub some : 0 < length specs
  pub same : (s t : WideSlot C L) → HasSame s t → at t ≡ at s

-- .. and until the cells were closed
pub record Course {C L : Type 0} (at : WideSlot C L → WideSides) (reading : ℕ → Type 0) (specs : List Spec) (bs : List RevisionState) (room rounds start : ℕ) (slots slots' : List (WideSlot C L)) (ws ws' : List (Option Link)) (ks ks' : List ℕ) (hs : List (List Past)) : Type 0 where
  pub laws : SessionLaws
  pub way : Way at reading specs bs room rounds start slots slots' ws ws' ks ks'
  pub closed : AreShut (length way.cells) way.firsts' way.ticks' hs

-- the first pass of a cell before it took the others in, the ticker's before and after, and the slots', of which f finds the one
pub record Spot {A : Type 0} (f : A → Option PassView) (xs : List A) (reading : ℕ → Type 0) (k : Kind) (start : ℕ) (w w' : Option Link) (n n' : ℕ) (cell : TableId) (first old new : PassView) : Type 0 where
  pub number : first.number ≡ 0
  pub mine : first.mine ≡ []
  pub others : first.others ≡ []
  pub kind : kind_of first ≡ k
  pub full : 1 + first.free + first.back + 1 + length xs ≡ first.passes
  pub fresh : IsNewOf k 1 old
  pub ticks : TicksOf reading start old new w w' n n'
  pub lone : AreLone cell f xs
  pub last : IsLone cell 1 new
  pub asks : (i : ℕ) (d : A) → i < length xs → Asks (f (slice_index_or xs i d))

-- .. and then it was closed
spot_seen : {A : Type 0} (f : A → Option PassView) (xs : List A) (reading : ℕ → Type 0) (k : Kind) (start : ℕ) (w w' : Option Link) (n n' : ℕ) (cell : TableId) (first old new : PassView) (h : List Past)
    → Spot f xs reading k start w w' n n' cell first old new → IsShut (closing f xs first new) h → Seen f xs reading k start w w' n n' h
spot_seen f xs reading k start w w' n n' cell first old new h y shut =
    let closes = shut.whole.closes in
    let opening : (closing f xs first new).opening ≡ k.opening = closing_opening f xs first new ∙ ap (λ (v : Kind). v.opening) y.kind in
    let closed : IsClosedAs (closing f xs first new).opening shut.revision h = whole_as (closing f xs first new) shut.revision h shut.whole in
    record {
      old = old;
      new = new;
      fresh = y.fresh;
      ticks = y.ticks;
      revision = shut.revision;
      closed = subst (λ (b : RevisionState). IsClosedAs b shut.revision h) opening closed;
      ticker = closing_ticker f xs first new shut.revision h y.last.named closes;
      kept = closing_kept cell f xs first new shut.revision h y.lone closes;
      rows = closing_rows cell f xs first new shut.revision h y.lone y.last y.number y.mine (subst (Each DidNothing) (sym y.others) (none DidNothing)) closes;
      asks = y.asks;
    }

-- ---- one slot's share in one revision

-- the new pass that the slot got of the cell, what it was in the end, and the rounds between, as the revision sees them
pub record SharedAt (reading : ℕ → Type 0) (spec : Spec) (b : RevisionState) (room : ℕ) (cell : TableId) (tag number v : ℕ) (es : List Ended) (given last : Option PassView) (a a' : WideSides) : Type 0 where
  pub old : PassView
  pub new : PassView
  pub was : given ≡ Some old
  pub is : last ≡ Some new
  pub fresh : IsNewOf (plain_kind b room) number old
  pub of : old.cell ≡ cell
  pub rounds : IsRounds (λ _. ⊤) (λ a b. unwatched reading) spec tag (map (ending_at v) es) old new (side_at v a) (side_at v a')

shared : (reading : ℕ → Type 0) (cells : List TableId) (specs : List Spec) (firsts : List PassView) (rounds i links links' : ℕ) (works : List Work) (from to : WideSides) (r : SlotRan reading cells specs firsts rounds i links links' works from to)
    → (v : ℕ) (d : Spec) (p : PassView) (b : RevisionState) (room : ℕ) (cell : TableId) → v < length firsts → (slice_index_or firsts v p).cell ≡ cell → kind_of (slice_index_or firsts v p) ≡ plain_kind b room
    → (slice_index_or firsts v p).passes - (slice_index_or firsts v p).free ≡ 2
    → SharedAt reading (slice_index_or specs v d) b room cell (i * rounds) (2 + i) v r.done.all.endings (at_pass (passes_in r.given) v) (at_pass (passes_in works) v) from to
shared reading cells specs firsts rounds i links links' works from to r v d p b room cell low of kind two =
    let P = slice_index_or firsts v p in
    let len = r.given_is.0 in
    let low' : v < length r.given = omega arith in
    let w0 = some_of r.given v low' in
    let g = (r.given_is.1 v p w0 low).0 in
    let was : at_pass (passes_in r.given) v ≡ Some g.0 = get_or-map (λ (w : Work). w.pass) r.given v w0 None low' ∙ g.1 in
    let x = rounds_at (λ _. ⊤) reading specs (i * rounds) r.done.all.endings (passes_in r.given) (passes_in works) from to r.done.all.rounds v d g.0 was in
    let n : P.passes - P.free + i ≡ 2 + i = omega arith in
    record {
      old = g.0;
      new = x.0;
      was = was;
      is = x.1;
      fresh = new_as (kind_of P) (plain_kind b room) (P.passes - P.free + i) (2 + i) g.0 kind n g.3;
      of = g.2 ∙ of;
      rounds = x.2;
    }

-- a first pass as it was opened
record Opens (b : RevisionState) (room n : ℕ) (cell : TableId) (first : PassView) : Type 0 where
  of : first.cell ≡ cell
  kind : kind_of first ≡ plain_kind b room
  two : first.passes - first.free ≡ 2

opens_of : (b : RevisionState) (room n : ℕ) (cell : TableId) (first ticks : PassView) → IsOpen b room (n + 2) cell first ticks → Opens b room n cell first
opens_of b room n cell first ticks o = record {
  of = ap (λ (v : PassView). v.cell) o.first_is;
  kind = ap kind_of o.first_is;
  two = let e = ap (λ (v : PassView). v.passes) o.first_is in let f = ap (λ (v : PassView). v.free) o.first_is in omega arith;
}

pub way_share : {C L : Type 0} (at : WideSlot C L → WideSides) (reading : ℕ → Type 0) (specs : List Spec) (bs : List RevisionState) (room rounds start : ℕ) (slots slots' : List (WideSlot C L)) (ws ws' : List (Option Link)) (ks ks' : List ℕ)
    → (x : Way at reading specs bs room rounds start slots slots' ws ws' ks ks')
    → (v : ℕ) (sd : Spec) (b : RevisionState) (c : TableId) → v < length specs → (i : ℕ) (d : WideSlot C L) → (low : i < length slots)
    → SharedAt reading (slice_index_or specs v sd) (slice_index_or bs v b) room (slice_index_or x.cells v c) (i * rounds) (2 + i) v (x.run.ran.1 i d low).done.all.endings (at_pass (passes_in (x.run.ran.1 i d low).given) v) (pass_at v (slice_index_or x.run.mids i d))
    (at (slice_index_or slots i d)) (at (slice_index_or x.run.mids i d))
way_share at reading specs bs room rounds start slots slots' ws ws' ks ks' x v sd b c inside i d low =
    let count = x.count in
    let n1 = x.opened.first_count in
    let lowb : v < length bs = omega arith in
    let lowf : v < length x.firsts = omega arith in
    let p = some_of x.firsts v lowf in
    let o = opens_of (slice_index_or bs v b) room (length slots) (slice_index_or x.cells v c) (slice_index_or x.firsts v p) (slice_index_or x.ticks v p) (x.opened.each v b c p lowb) in
    let m = slice_index_or x.run.mids i d in
    let s = slice_index_or slots i d in
    shared reading x.cells specs x.firsts rounds i (length s.links.items) (length m.links.items) m.works.items (at s) (at m) (x.run.ran.1 i d low) v sd p (slice_index_or bs v b) room (slice_index_or x.cells v c) lowf o.of o.kind o.two

-- what was opened can be handed out, and ticks
pub open_may : (bs : List RevisionState) (room n : ℕ) (cells : List TableId) (firsts ticks : List PassView) → AreOpen bs room (n + 2) cells firsts ticks → EachMayGive n cells firsts
open_may bs room n cells firsts ticks o =
    let n1 = o.first_count in
    let n2 = o.cell_count in (
      n1 ∙ sym n2,
      λ v c p low.
          let lowb : v < length bs = omega arith in
          let is = (o.each v (some_of bs v lowb) c p lowb).first_is in
          let free = ap (λ (q : PassView). q.free) is in
          let passes = ap (λ (q : PassView). q.passes) is in
          record { of = ap (λ (q : PassView). q.cell) is; free = omega arith; low = omega arith; blank = record { unseen = ap (λ (q : PassView). q.seen) is; whole = ap (λ (q : PassView). q.gone) is } },
    )

pub open_ticks : (bs : List RevisionState) (room n : ℕ) (cells : List TableId) (firsts ticks : List PassView) → AreOpen bs room n cells firsts ticks → ArePassesOf cells ticks
open_ticks bs room n cells firsts ticks o =
    let n1 = o.tick_count in
    let n2 = o.cell_count in (
      n1 ∙ sym n2,
      λ v c p low.
          let lowb : v < length bs = omega arith in
          ap (λ (q : PassView). q.cell) (o.each v (some_of bs v lowb) c p lowb).ticks_is,
    )

-- ---- one revision

pub way_spot : {C L : Type 0} (at : WideSlot C L → WideSides) (reading : ℕ → Type 0) (specs : List Spec) (bs : List RevisionState) (room rounds start : ℕ) (slots slots' : List (WideSlot C L)) (ws ws' : List (Option Link)) (ks ks' : List ℕ)
    → (x : Way at reading specs bs room rounds start slots slots' ws ws' ks ks') → (v : ℕ) (b : RevisionState) (c : TableId) (p : PassView) → v < length specs
    → Spot (pass_at v) x.run.mids reading (plain_kind (slice_index_or bs v b) room) start (at_wire ws v) (at_wire ws' v) (at_count ks v) (at_count ks' v) (slice_index_or x.cells v c) (slice_index_or x.run.gone v p) (slice_index_or x.ticks v p) (slice_index_or x.ticks' v p)
way_spot at reading specs bs room rounds start slots slots' ws ws' ks ks' x v b0 c p inside =
    let count = x.count in
    let n1 = x.opened.first_count in
    let n2 = x.opened.cell_count in
    let n3 = x.opened.tick_count in
    let n5 = x.run.ran.0 in
    let n = length slots in
    let lowb : v < length bs = omega arith in
    let lowf : v < length x.firsts = omega arith in
    let lowt : v < length x.ticks = omega arith in
    let sd = some_of specs v inside in
    let b = slice_index_or bs v b0 in
    let cell = slice_index_or x.cells v c in
    let T = slice_index_or x.ticks v p in
    let T' = slice_index_or x.ticks' v p in
    let G = slice_index_or x.run.gone v p in
    let o = x.opened.each v b0 c p lowb in
    let is : G ≡ gave n (record (first_shown cell b room (n + 2)) { free = n + 2 - 1 - 1 }) = x.run.gave.1 v p lowf ∙ ap (gave n) o.first_is in
    let t = x.ticked.ticks v p lowt in
    let next = next_of T T' (inr t.turns.1.later) in
    let named : T.number ≡ 1 = let e = ap (λ (q : PassView). q.number) o.ticks_is in omega arith in
    let free = ap (λ (q : PassView). q.free) is in
    let back = ap (λ (q : PassView). q.back) is in
    let passes = ap (λ (q : PassView). q.passes) is in
    record {
      number = ap (λ (q : PassView). q.number) is;
      mine = ap (λ (q : PassView). q.mine) is;
      others = ap (λ (q : PassView). q.others) is;
      kind = ap kind_of is;
      full = omega arith;
      fresh = record {
        named = named;
        free = ap (λ (q : PassView). q.free) o.ticks_is;
        back = ap (λ (q : PassView). q.back) o.ticks_is;
        seen = ap (λ (q : PassView). q.seen) o.ticks_is;
        mine = ap (λ (q : PassView). q.mine) o.ticks_is;
        others = ap (λ (q : PassView). q.others) o.ticks_is;
        kind = ap kind_of o.ticks_is;
        whole = ap (λ (q : PassView). q.gone) o.ticks_is;
        reader = ap (λ (q : PassView). q.scribe) o.ticks_is;
      };
      ticks = t;
      lone = λ i d low.
          let s = way_share at reading specs bs room rounds start slots slots' ws ws' ks ks' x v sd b0 c inside i d (omega arith) in
          let k = rounds_next (λ _. ⊤) (λ a b. unwatched reading) (slice_index_or specs v sd) (i * rounds) _ s.old s.new _ _ s.rounds in
          (s.new, s.is, record { of = k.cell ∙ s.of; named = k.number ∙ s.fresh.named; free = k.free ∙ s.fresh.free; back = k.back ∙ s.fresh.back; others = k.others ∙ s.fresh.others });
      last = record {
        of = next.cell ∙ ap (λ (q : PassView). q.cell) o.ticks_is;
        named = next.number ∙ named;
        free = next.free ∙ ap (λ (q : PassView). q.free) o.ticks_is;
        back = next.back ∙ ap (λ (q : PassView). q.back) o.ticks_is;
        others = next.others ∙ ap (λ (q : PassView). q.others) o.ticks_is;
      };
      asks = λ i d low.
          let s = way_share at reading specs bs room rounds start slots slots' ws ws' ks ks' x v sd b0 c inside i d (omega arith) in
          record { old = s.old; new = s.new; is = s.is; none = s.fresh.mine; own = rounds_own (λ _. ⊤) (λ a b. unwatched reading) (slice_index_or specs v sd) (i * rounds) _ s.old s.new _ _ s.rounds };
    }

-- the first passes and the ticker's can close the cells
pub way_closes : {C L : Type 0} (at : WideSlot C L → WideSides) (reading : ℕ → Type 0) (specs : List Spec) (bs : List RevisionState) (room rounds start : ℕ) (slots slots' : List (WideSlot C L)) (ws ws' : List (Option Link)) (ks ks' : List ℕ)
    → (x : Way at reading specs bs room rounds start slots slots' ws ws' ks ks') → ArePassesOf x.cells x.firsts' → MayCloseAll x.cells x.firsts' x.ticks'
way_closes at reading specs bs room rounds start slots slots' ws ws' ks ks' x of =
    let count = x.count in
    let n1 = x.opened.first_count in
    let n2 = x.opened.cell_count in
    let n3 = x.opened.tick_count in
    let n4 = x.run.gave.0 in
    let n5 = x.ticked.passes in
    record {
      first_count = of.0;
      tick_count = omega arith;
      each = λ v c p low.
          let inside : v < length specs = omega arith in
          let b = some_of bs v (omega arith) in
          let y = way_spot at reading specs bs room rounds start slots slots' ws ws' ks ks' x v b c p inside in
          let G = slice_index_or x.run.gone v p in
          let T' = slice_index_or x.ticks' v p in
          let full = closing_full (slice_index_or x.cells v c) (pass_at v) x.run.mids G T' y.lone y.last y.full in
          let took = x.run.took.1 v p (omega arith) in
          record {
            ticks_of = y.last.of;
            closes = record { of = of.1 v c p low; plain = ap (λ (q : PassView). q.lasting) took ∙ ap (λ (k : Kind). k.lasting) ((joined_same G (found_by (pass_at v) x.run.mids)).kind ∙ y.kind); all = subst (λ (q : PassView). 1 + (joined_shown q T').free + (joined_shown q T').back ≡ (joined_shown q T').passes) (sym took) full };
          };
    }

pub course_seen : {C L : Type 0} (at : WideSlot C L → WideSides) (reading : ℕ → Type 0) (specs : List Spec) (bs : List RevisionState) (room rounds start : ℕ) (slots slots' : List (WideSlot C L)) (ws ws' : List (Option Link)) (ks ks' : List ℕ) (hs : List (List Past))
    → (x : Course at reading specs bs room rounds start slots slots' ws ws' ks ks' hs)
    → (v : ℕ) (b : RevisionState) → v < length specs → Seen (pass_at v) x.way.run.mids reading (plain_kind (slice_index_or bs v b) room) start (at_wire ws v) (at_wire ws' v) (at_count ks v) (at_count ks' v) (at_history hs v)
course_seen at reading specs bs room rounds start slots slots' ws ws' ks ks' hs x v b inside =
    let count = x.way.count in
    let n1 = x.way.opened.first_count in
    let n2 = x.way.opened.cell_count in
    let n4 = x.way.run.gave.0 in
    let lowc : v < length x.way.cells = omega arith in
    let lowf : v < length x.way.firsts = omega arith in
    let p = some_of x.way.firsts v lowf in
    let c = some_of x.way.cells v lowc in
    let T' = slice_index_or x.way.ticks' v p in
    let spot = way_spot at reading specs bs room rounds start slots slots' ws ws' ks ks' x.way v b c p inside in
    let shut = subst (λ (q : PassView). IsShut (joined_shown q T') (at_history hs v)) (x.way.run.took.1 v p (omega arith)) (x.closed v p lowc) in
    spot_seen (pass_at v) x.way.run.mids reading (plain_kind (slice_index_or bs v b) room) start _ _ _ _ (slice_index_or x.way.cells v c) (slice_index_or x.way.run.gone v p) (slice_index_or x.way.ticks v p) T' (at_history hs v) spot shut

-- ---- what was lent of the lists of cells and of first passes is what they hold

abbrev pub way_of : {C L : Type 0} {at : WideSlot C L → WideSides} {reading : ℕ → Type 0} {specs : List Spec} {bs : List RevisionState} {room rounds start : ℕ} {slots slots' : List (WideSlot C L)} {ws ws' : List (Option Link)} {ks ks' : List ℕ}
    (cells cells0 : List TableId) (firsts firsts0 ticks ticks0 firsts' ticks' : List PassView) → AreOpen bs room (length slots + 2) cells0 firsts0 ticks0 → cells ≡ cells0 → firsts ≡ firsts0 → ticks ≡ ticks0
    → HasRun at reading cells specs rounds firsts firsts' slots slots' → HaveTicked reading start ticks ticks' ws ws' ks ks' → length bs ≡ length specs → 0 < length specs → ((s t : WideSlot C L) → HasSame s t → at t ≡ at s)
    → Way at reading specs bs room rounds start slots slots' ws ws' ks ks'
way_of cells cells0 firsts firsts0 ticks ticks0 firsts' ticks' opened e f h run ticked count some same = record {
  cells = cells;
  firsts = firsts;
  ticks = ticks;
  firsts' = firsts';
  ticks' = ticks';
  opened = rw (e, f, h) opened;
  run = run;
  ticked = ticked;
  count = count;
  some = some;
  same = same;
}

-- the first passes, as they come back into their list
pub come_back : {bs : List RevisionState} {room n : ℕ} (cells : List TableId) (firsts firsts0 ticks firsts' : List PassView) (len : ℕ) → AreOpen bs room n cells firsts ticks → length firsts ≡ len → ArePassesOf cells firsts'
    → take len (firsts' ++ drop (length firsts') firsts0) ≡ firsts'
come_back cells firsts firsts0 ticks firsts' len opened long of =
    let n1 = of.0 in
    let n2 = opened.first_count in
    let n3 = opened.cell_count in
    lent len firsts' firsts0 (omega arith)

abbrev pub course_of : {C L : Type 0} {at : WideSlot C L → WideSides} {reading : ℕ → Type 0} {specs : List Spec} {bs : List RevisionState} {room rounds start : ℕ} {slots slots' : List (WideSlot C L)} {ws ws' : List (Option Link)} {ks ks' : List ℕ}
    (hs : List (List Past)) (cells0 : List TableId) (back back' : List PassView) → SessionLaws → (way : Way at reading specs bs room rounds start slots slots' ws ws' ks ks') → way.cells ≡ cells0 → back ≡ way.firsts' → back' ≡ way.ticks'
    → AreShut (length cells0) back back' hs → Course at reading specs bs room rounds start slots slots' ws ws' ks ks' hs
course_of hs cells0 back back' laws way e f f' closed = record {
  laws = laws;
  way = way;
  closed = subst (λ n. AreShut n way.firsts' way.ticks' hs) (sym (ap length e)) (subst (λ l. AreShut (length cells0) way.firsts' l hs) f' (subst (λ l. AreShut (length cells0) l back' hs) f closed));
}
