-- From a seat's turn to what contracts see of its pass.
use Rattle.std.proofs.Common.{◌≡◌, ℕ, ◌+◌, ◌≤◌, List, [], ◌∷◌, ◌++◌, true, refl, sym, ap, ◌∙◌, subst, arith, length-append, Result, Ok, Err, IfOk, IfErr}
use Rattle.atomic_table.specs.Table.{Me}
use Rattle.atomic_table.specs.Seated.{TableId}
use Rattle.kn_event.specs.declared.event.Act.{Act}
use Rattle.kn_event.specs.declared.event.Told.{Told}
use Rattle.kn_cell.specs.declared.past.Past.{Past}
use Rattle.kn_cell.specs.declared.past.Full.{Full}
use Rattle.kn_cell.specs.declared.view.View.{View}
use Rattle.kn_cell.specs.History.{IsInBounds}
use Rattle.kn_cell.specs.State.{DeskState}
use Rattle.kn_cell.specs.Rule.{Learns, without_turn}
use Rattle.kn_cell.specs.Turns.{WaitsForTurn, RecordsRow, Overflows, row_of}
use Rattle.kn_cell.specs.Shown.{shown, Looks, RecordsLast, Misfits}
use Rattle.kn_cell.proofs.ListFacts.{longer}
use Rattle.kn_cell.proofs.HistoryFacts.{Each-one, rows_by-own}

abbrev pub waited : View → List Past → ℕ → ℕ → View
waited v log taken k = record v { turn = true; seen = log; gone = taken; missed = k }

-- the turn was given back with nothing recorded
looks_still : (t : TableId) (v : View) (log : List Past) (taken k : ℕ) → v.missed ≤ k → (1 + v.free + v.back ≡ v.key.passes → k ≡ v.missed) → Learns v log taken → Looks (shown t v) (shown t (without_turn (waited v log taken k)))
looks_still t v log taken k later alone l = record { same = refl; missed = later; alone = alone; longer = l.longer; others = l.others; legal = l.legal; bounds = l.bounds; own = l.own; some = l.bounded.some; gone = l.gone; most = l.most; plain = l.plain; still = λ is. let e = (l.scribe is).0 in omega arith }

pub looks_idle : (t : TableId) (v : View) (m w : Me DeskState View) → WaitsForTurn v m → w ≡ (without_turn m.0, []) → Looks (shown t v) (shown t w.0)
looks_idle t v m w got is =
    subst (λ (x : View). Looks (shown t v) (shown t x)) (sym (ap (λ (x : Me DeskState View). x.0) is))
    (subst (λ (x : View). Looks (shown t v) (shown t (without_turn x))) (sym got.view_is) (looks_still t v got.log got.taken got.missed got.later got.alone got.learns))

looks_more : (t : TableId) (v : View) (log : List Past) (taken k : ℕ) (act : Act) (time : ℕ) (told : Told) (w : Me DeskState View) → v.missed ≤ k → (1 + v.free + v.back ≡ v.key.passes → k ≡ v.missed) → Learns v log taken
    → RecordsRow (waited v log taken k) act time told w → Looks (shown t v) (shown t w.0)
looks_more t v log taken k act time told w later alone l r =
    let row = row_of (waited v log taken k) act time told in
    let len = length-append log (row ∷ []) in
    let most = l.most in
    subst (λ (x : Me DeskState View). Looks (shown t v) (shown t x.0)) (sym r.after_is)
    record {
      same = refl;
      missed = later;
      alone = alone;
      longer = longer log v.seen (row ∷ []) l.longer;
      others = λ i o at. longer log o.seen (row ∷ []) (l.others i o at);
      legal = r.legal;
      bounds = Each-one (λ r. IsInBounds r.event) log row l.bounds r.bounds;
      own = refl;
      some = l.bounded.some;
      gone = l.gone;
      most = omega arith;
      plain = l.plain;
      still = λ is. let e = (l.scribe is).0 in omega arith;
    }

pub looks_recorded : (t : TableId) (v : View) (act : Act) (time : ℕ) (told : Told) (m w : Me DeskState View) → WaitsForTurn v m → RecordsRow m.0 act time told w
    → Looks (shown t v) (shown t w.0)
looks_recorded t v act time told m w got r =
    looks_more t v got.log got.taken got.missed act time told w got.later got.alone got.learns (subst (λ (x : View). RecordsRow x act time told w) got.view_is r)

adds_more : (t : TableId) (v : View) (log : List Past) (taken k : ℕ) (act : Act) (time : ℕ) (told : Told) (w : Me DeskState View) → Learns v log taken
    → RecordsRow (waited v log taken k) act time told w → RecordsLast (shown t v) act time told (shown t w.0)
adds_more t v log taken k act time told w l r =
    let row = row_of (waited v log taken k) act time told in
    subst (λ (x : Me DeskState View). RecordsLast (shown t v) act time told (shown t x.0)) (sym r.after_is)
    record {
      front = log;
      row = row;
      row_is = refl;
      seen = refl;
      mine = rows_by-own v.number log row refl ∙ ap (λ h. h ++ row ∷ []) (sym l.own);
      longer = l.longer;
      room = r.need;
    }

pub adds_recorded : (t : TableId) (v : View) (act : Act) (time : ℕ) (told : Told) (m w : Me DeskState View) → WaitsForTurn v m → RecordsRow m.0 act time told w
    → RecordsLast (shown t v) act time told (shown t w.0)
adds_recorded t v act time told m w got r =
    adds_more t v got.log got.taken got.missed act time told w got.learns (subst (λ (x : View). RecordsRow x act time told w) got.view_is r)

misfits_still : (t : TableId) (v : View) (log : List Past) (taken k : ℕ) (act : Act) (full : Full) → Overflows (waited v log taken k) act full
    → Misfits (shown t v) act full (shown t (without_turn (waited v log taken k)))
misfits_still t v log taken k act full o = record { mine = refl; room = o.room; used = o.used; live = o.live; short = o.short }

pub misfits_idle : (t : TableId) (v : View) (act : Act) (full : Full) (m w : Me DeskState View) → WaitsForTurn v m → w ≡ (without_turn m.0, []) → Overflows m.0 act full
    → Misfits (shown t v) act full (shown t w.0)
misfits_idle t v act full m w got is o =
    subst (λ (x : View). Misfits (shown t v) act full (shown t x)) (sym (ap (λ (x : Me DeskState View). x.0) is))
    (subst (λ (x : View). Misfits (shown t v) act full (shown t (without_turn x))) (sym got.view_is)
    (misfits_still t v got.log got.taken got.missed act full (subst (λ (x : View). Overflows x act full) got.view_is o)))

pub missed_of : (t : TableId) (v : View) (act : Act) (time : ℕ) (r : Result Told Full) (m w : Me DeskState View)
    → IfOk r (λ told. RecordsRow m.0 act time told w) → IfErr r (λ full. (w ≡ (without_turn m.0, [])) × Overflows m.0 act full) → w.0.missed ≡ m.0.missed
missed_of t v act time (Ok told) m w ok err = ap (λ (x : Me DeskState View). x.0.missed) ok.after_is
missed_of t v act time (Err full) m w ok err = ap (λ (x : Me DeskState View). x.0.missed) err.0
