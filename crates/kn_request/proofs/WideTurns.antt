-- The turns of several revisions, one after the other.
use Rattle.std.proofs.Common.{◌≡◌, ◌≢◌, inl, inr, ℕ, ◌+◌, ◌<◌, ◌≤◌, List, length, refl, sym, ap, subst, ◌∙◌, arith}
use Rattle.std.proofs.lemmas.Bool.{cases_eq}
use Rattle.std.proofs.lemmas.List.{get_or-set_same, get_or-set_other, length-set}
use Rattle.std.specs.Prelude.{Option, None, slice_index_or, slice_set}
use Rattle.atomic_table.specs.Seated.{TableId}
use Rattle.kn_cell.specs.Shown.{Looks, PassView}
use Rattle.kn_io.specs.Links.{Link}
use Rattle.kn_request.specs.declared.ticks.Turn.{Turn}
use Rattle.kn_request.specs.Ticking.{TakesTurn, TurnsTo}
use Rattle.kn_request.specs.Wide.{ArePassesOf, TakesOneTurn, TakesTurns, TicksAll, at_count, at_wire}
use Rattle.kn_request.proofs.Later.{cell_is}
use Rattle.kn_request.proofs.TickTimes.{apart_of}
use Rattle.kn_request.proofs.TurnFacts.{first_turn, next_turn}

-- the revisions before v took a turn, and the others none yet
pub record Turning (now v : ℕ) (ps ps' : List PassView) (ls ls' : List ℕ) (ws ws' : List (Option Link)) (bs bs' : List ℕ) : Type 0 where
  pub done : (u : ℕ) (d : PassView) → u < v → TakesOneTurn now (at_count ls u) (at_count ls' u) (slice_index_or ps u d) (slice_index_or ps' u d) (at_wire ws u) (at_wire ws' u) (at_count bs u) (at_count bs' u)
  pub passes : (u : ℕ) (d : PassView) → v ≤ u → slice_index_or ps' u d ≡ slice_index_or ps u d
  pub lasts : (u : ℕ) → v ≤ u → at_count ls' u ≡ at_count ls u
  pub wires : (u : ℕ) → v ≤ u → at_wire ws' u ≡ at_wire ws u
  pub breaks : (u : ℕ) → v ≤ u → at_count bs' u ≡ at_count bs u

pub turning_none : (now : ℕ) (ps : List PassView) (ls : List ℕ) (ws : List (Option Link)) (bs : List ℕ) → Turning now 0 ps ps ls ls ws ws bs bs
turning_none now ps ls ws bs = record {
  done = λ u d low. absurd (omega (arith, low));
  passes = λ u d low. refl;
  lasts = λ u low. refl;
  wires = λ u low. refl;
  breaks = λ u low. refl;
}

-- the turn of revision v
turn_here : (now v u : ℕ) (ps ps' : List PassView) (ls ls' : List ℕ) (ws ws' : List (Option Link)) (bs bs' : List ℕ) (e : PassView) (q : PassView) (w : Option Link) (b : ℕ) (turn : Turn)
    → u ≡ v → v < length ps' → v < length ls' → v < length ws' → v < length bs' → Turning now v ps ps' ls ls' ws ws' bs bs'
    → TakesTurn now (at_count ls' v) (slice_index_or ps' v e) q (at_wire ws' v) w turn → at_count bs' v ≤ b
    → TakesOneTurn now (at_count ls u) (at_count (slice_set ls' v turn.last) u) (slice_index_or ps u e) (slice_index_or (slice_set ps' v q) u e) (at_wire ws u) (at_wire (slice_set ws' v w) u) (at_count bs u) (at_count (slice_set bs' v b) u)
turn_here now v u ps ps' ls ls' ws ws' bs bs' e q w b turn same inp inl' inw inb t takes rise =
    let low : v ≤ u = omega (arith, same) in
    let lasts : at_count ls' v ≡ at_count ls u = ap (at_count ls') (sym same) ∙ t.lasts u low in
    let passes : slice_index_or ps' v e ≡ slice_index_or ps u e = ap (λ k. slice_index_or ps' k e) (sym same) ∙ t.passes u e low in
    let wires : at_wire ws' v ≡ at_wire ws u = ap (at_wire ws') (sym same) ∙ t.wires u low in
    let breaks : at_count bs' v ≡ at_count bs u = ap (at_count bs') (sym same) ∙ t.breaks u low in
    let lasts' : at_count (slice_set ls' v turn.last) u ≡ turn.last = ap (at_count (slice_set ls' v turn.last)) same ∙ get_or-set_same ls' v turn.last 0 inl' in
    let passes' : slice_index_or (slice_set ps' v q) u e ≡ q = ap (λ k. slice_index_or (slice_set ps' v q) k e) same ∙ get_or-set_same ps' v q e inp in
    let wires' : at_wire (slice_set ws' v w) u ≡ w = ap (at_wire (slice_set ws' v w)) same ∙ get_or-set_same ws' v w None inw in
    let breaks' : at_count (slice_set bs' v b) u ≡ b = ap (at_count (slice_set bs' v b)) same ∙ get_or-set_same bs' v b 0 inb in
    let before = subst (λ (x : Option Link). TakesTurn now (at_count ls u) (slice_index_or ps u e) q x w turn) wires (subst (λ (x : PassView). TakesTurn now (at_count ls u) x q (at_wire ws' v) w turn) passes (subst (λ k. TakesTurn now k (slice_index_or ps' v e) q (at_wire ws' v) w turn) lasts takes)) in
    let here = subst (λ (x : Option Link). TakesTurn now (at_count ls u) (slice_index_or ps u e) (slice_index_or (slice_set ps' v q) u e) (at_wire ws u) x turn) (sym wires') (subst (λ (x : PassView). TakesTurn now (at_count ls u) (slice_index_or ps u e) x (at_wire ws u) w turn) (sym passes') before) in
    record {
      turn = turn;
      last_is = lasts';
      takes = here;
      never_falls = omega (arith, rise, breaks, breaks');
    }

-- the turn of an earlier one
turn_before : (now v u : ℕ) (ps ps' : List PassView) (ls ls' : List ℕ) (ws ws' : List (Option Link)) (bs bs' : List ℕ) (e : PassView) (q : PassView) (w : Option Link) (b n : ℕ)
    → u ≢ v → u < v → Turning now v ps ps' ls ls' ws ws' bs bs'
    → TakesOneTurn now (at_count ls u) (at_count (slice_set ls' v n) u) (slice_index_or ps u e) (slice_index_or (slice_set ps' v q) u e) (at_wire ws u) (at_wire (slice_set ws' v w) u) (at_count bs u) (at_count (slice_set bs' v b) u)
turn_before now v u ps ps' ls ls' ws ws' bs bs' e q w b n other low t =
    let x = t.done u e low in
    let passes' : slice_index_or ps' u e ≡ slice_index_or (slice_set ps' v q) u e = sym (get_or-set_other ps' v u q e other) in
    let wires' : at_wire ws' u ≡ at_wire (slice_set ws' v w) u = sym (get_or-set_other ws' v u w None other) in
    let breaks' : at_count (slice_set bs' v b) u ≡ at_count bs' u = get_or-set_other bs' v u b 0 other in
    let never = x.never_falls in
    record {
      turn = x.turn;
      last_is = get_or-set_other ls' v u n 0 other ∙ x.last_is;
      takes = subst (λ (y : Option Link). TakesTurn now (at_count ls u) (slice_index_or ps u e) (slice_index_or (slice_set ps' v q) u e) (at_wire ws u) y x.turn) wires' (subst (λ (y : PassView). TakesTurn now (at_count ls u) (slice_index_or ps u e) y (at_wire ws u) (at_wire ws' u) x.turn) passes' x.takes);
      never_falls = omega (arith, never, breaks');
    }

pub turning_more : (now v : ℕ) (ps ps' : List PassView) (ls ls' : List ℕ) (ws ws' : List (Option Link)) (bs bs' : List ℕ) (q : PassView) (w : Option Link) (b : ℕ) (turn : Turn)
    → v < length ps' → v < length ls' → v < length ws' → v < length bs' → Turning now v ps ps' ls ls' ws ws' bs bs'
    → ((e : PassView) → TakesTurn now (at_count ls' v) (slice_index_or ps' v e) q (at_wire ws' v) w turn) → at_count bs' v ≤ b
    → Turning now (v + 1) ps (slice_set ps' v q) ls (slice_set ls' v turn.last) ws (slice_set ws' v w) bs (slice_set bs' v b)
turning_more now v ps ps' ls ls' ws ws' bs bs' q w b turn inp inl' inw inb t takes rise = record {
  done = λ u e low. elim (cases_eq u v) [
    | inl same ↦ turn_here now v u ps ps' ls ls' ws ws' bs bs' e q w b turn same inp inl' inw inb t (takes e) rise
    | inr other ↦ turn_before now v u ps ps' ls ls' ws ws' bs bs' e q w b turn.last other (omega (arith, low, other)) t
  ];
  passes = λ u e low. get_or-set_other ps' v u q e (λ same. absurd (omega (arith, low, same))) ∙ t.passes u e (omega (arith, low));
  lasts = λ u low. get_or-set_other ls' v u turn.last 0 (λ same. absurd (omega (arith, low, same))) ∙ t.lasts u (omega (arith, low));
  wires = λ u low. get_or-set_other ws' v u w None (λ same. absurd (omega (arith, low, same))) ∙ t.wires u (omega (arith, low));
  breaks = λ u low. get_or-set_other bs' v u b 0 (λ same. absurd (omega (arith, low, same))) ∙ t.breaks u (omega (arith, low));
}

-- each pass is still of its cell
pub cells_set : (cells : List TableId) (ps : List PassView) (v : ℕ) (d q : PassView) → ArePassesOf cells ps → v < length ps → Looks (slice_index_or ps v d) q → ArePassesOf cells (slice_set ps v q)
cells_set cells ps v d q of low looks =
    let many = of.0 in (
      length-set ps v q ∙ of.0,
      λ u c e inside. elim (cases_eq u v) [
        | inl same ↦
            let at : slice_index_or (slice_set ps v q) u e ≡ q = ap (λ k. slice_index_or (slice_set ps v q) k e) same ∙ get_or-set_same ps v q e low in
            ap (λ (x : PassView). x.cell) at ∙ (cell_is (slice_index_or ps v d) q looks ∙ (ap (λ k. (slice_index_or ps k d).cell) (sym same) ∙ of.1 u c d inside))
        | inr other ↦ ap (λ (x : PassView). x.cell) (get_or-set_other ps v u q e other) ∙ of.1 u c e inside
      ],
    )

pub cells_stay : (now : ℕ) (cells : List TableId) (ps ps' : List PassView) (ls ls' : List ℕ) (ws ws' : List (Option Link)) (bs bs' : List ℕ) → ArePassesOf cells ps → length ps' ≡ length ps → TakesTurns now ps ps' ls ls' ws ws' bs bs' → ArePassesOf cells ps'
cells_stay now cells ps ps' ls ls' ws ws' bs bs' of long turns =
    let many = of.0 in
    (long ∙ many, λ v c p low. cell_is (slice_index_or ps v p) (slice_index_or ps' v p) (turns v p (omega (arith, low, many))).takes.later ∙ of.1 v c p low)

-- ---- turn after turn of all

pub record TicksTo (reading : ℕ → Type 0) (start : ℕ) (p q : PassView) (w w' : Option Link) (end b b' : ℕ) : Type 0 where
  pub turns : TurnsTo reading start p q w w' end
  pub never_falls : b ≤ b'

abbrev pub AllTick : (ℕ → Type 0) → ℕ → List PassView → List PassView → List (Option Link) → List (Option Link) → List ℕ → List ℕ → List ℕ → Type 0
AllTick reading start ps ps' ws ws' ls bs bs' =
    (v : ℕ) (d : PassView) → v < length ps → TicksTo reading start (slice_index_or ps v d) (slice_index_or ps' v d) (at_wire ws v) (at_wire ws' v) (at_count ls v) (at_count bs v) (at_count bs' v)

pub all_first : (reading : ℕ → Type 0) (start now : ℕ) (ps ps' : List PassView) (ls ls' : List ℕ) (ws ws' : List (Option Link)) (bs bs' : List ℕ) → reading now → ((v : ℕ) → v < length ps → at_count ls v ≡ start)
    → TakesTurns now ps ps' ls ls' ws ws' bs bs' → AllTick reading start ps ps' ws ws' ls' bs bs'
all_first reading start now ps ps' ls ls' ws ws' bs bs' read set turns v d low =
    let p = slice_index_or ps v d in
    let q = slice_index_or ps' v d in
    let w = at_wire ws v in
    let w' = at_wire ws' v in
    let x = turns v d low in
    let takes = subst (λ k. TakesTurn now k p q w w' x.turn) (set v low) x.takes in
    record {
      turns = subst (TurnsTo reading start p q w w') (sym x.last_is) (first_turn reading start now x.turn p q w w' read takes);
      never_falls = x.never_falls;
    }

pub all_next : (reading : ℕ → Type 0) (start now : ℕ) (ps ps' ps'' : List PassView) (ls ls' : List ℕ) (ws ws' ws'' : List (Option Link)) (bs bs' bs'' : List ℕ) → length ps' ≡ length ps → AllTick reading start ps ps' ws ws' ls bs bs' → reading now
    → TakesTurns now ps' ps'' ls ls' ws' ws'' bs' bs'' → AllTick reading start ps ps'' ws ws'' ls' bs bs''
all_next reading start now ps ps' ps'' ls ls' ws ws' ws'' bs bs' bs'' long all read turns v d low =
    let p = slice_index_or ps v d in
    let q = slice_index_or ps' v d in
    let s = slice_index_or ps'' v d in
    let y = all v d low in
    let x = turns v d (omega (arith, low, long)) in
    let end = next_turn reading start (at_count ls v) now x.turn p q s (at_wire ws v) (at_wire ws' v) (at_wire ws'' v) y.turns read x.takes in
    let so = y.never_falls in
    let then' = x.never_falls in
    record {
      turns = subst (TurnsTo reading start p s (at_wire ws v) (at_wire ws'' v)) (sym x.last_is) end;
      never_falls = omega (arith, so, then');
    }

pub ticks_all : (reading : ℕ → Type 0) (start : ℕ) (ps ps' : List PassView) (ws ws' : List (Option Link)) (ls bs bs' : List ℕ) → AllTick reading start ps ps' ws ws' ls bs bs' → TicksAll reading start ps ps' ws ws' bs bs'
ticks_all reading start ps ps' ws ws' ls bs bs' all v d low =
    let x = all v d low in
    record {
      turns = (at_count ls v, x.turns);
      apart = apart_of reading start (at_count ls v) (slice_index_or ps v d) (slice_index_or ps' v d) (at_wire ws v) (at_wire ws' v) x.turns;
      never_falls = x.never_falls;
    }
