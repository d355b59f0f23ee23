-- What a seat with the turn does, as facts on plain data.
use Rattle.std.proofs.Common.{◌≡◌, ℕ, ◌+◌, ◌-◌, ◌<◌, ◌≤◌, ◌^◌, List, [], ◌∷◌, ◌++◌, Bool, true, false, length, refl, sym, ap, ◌∙◌, subst, arith, append_assoc, length-append, Result, Ok, Err, IfOk}
use Rattle.std.specs.Prelude.{min}
use mathlib.Core.Path.{ap₂}
use Rattle.atomic_table.specs.Table.{Me, rest}
use Rattle.kn_event.specs.declared.event.Act.{Act}
use Rattle.kn_event.specs.declared.event.Told.{Told}
use Rattle.kn_book.specs.State.{IsBookOf}
use Rattle.kn_core.specs.State.{StandsFor}
use Rattle.kn_figures.specs.declared.figures.Figures.{Figures}
use Rattle.kn_figures.specs.Figures.{IsFiguresOf}
use Rattle.kn_figures.specs.Tallies.{IsTallyOf}
use Rattle.kn_trace.specs.Events.{react, told_of, need_of}
use Rattle.kn_trace.specs.Trace.{Trace}
use Rattle.kn_core.specs.Gauges.{count_live}
use Rattle.kn_cell.specs.declared.past.Past.{Past}
use Rattle.kn_cell.specs.declared.past.Full.{Full}
use Rattle.kn_cell.specs.declared.view.View.{View}
use Rattle.kn_cell.specs.Counted.{AreFiguresAt}
use Rattle.kn_cell.specs.History.{made_by, trace_after, clock_after, room_for, IsInBounds, IsLegal, past}
use Rattle.kn_cell.specs.State.{DeskState}
use Rattle.kn_cell.specs.Desk.{Applies, IsTooSmall, event_by_clock, time_at, left_at}
use Rattle.kn_cell.specs.Views.{opening, IsBounded}
use Rattle.kn_cell.specs.Rule.{GoesWith, GetsTurn, Misses, last_row, missed_one, recorded}
use Rattle.kn_cell.specs.Turns.{HasTurn, WaitsForTurn, Overflows, row_of, room_of, trace_seen}
use Rattle.kn_cell.proofs.Counting.{made_by-one}
use Rattle.kn_cell.proofs.TakenMoves.{taken_within, last_row-one}
use Rattle.kn_cell.proofs.TurnMoves.{first_or}
use Rattle.kn_cell.proofs.HistoryFacts.{trace_after-one, clock_after-one, legal-one}

gets_at : (v : View) (k : ℕ) (c : List (ℕ × DeskState)) (m : Me DeskState View) → v.missed ≤ k → (1 + v.free + v.back ≡ v.key.passes → k ≡ v.missed) → v.spent ≡ false → GetsTurn (record v { missed = k }, c) m → WaitsForTurn v m
gets_at v k c m later alone fresh g = record {
  log = g.log;
  taken = g.value.taken;
  missed = k;
  later = later;
  alone = alone;
  learns = record { bounded = g.learns.bounded; legal = g.learns.legal; bounds = g.learns.bounds; longer = g.learns.longer; others = g.learns.others; own = g.learns.own; gone = g.learns.gone; most = g.learns.most; plain = g.learns.plain; scribe = g.learns.scribe };
  view_is = ap (λ (x : Me DeskState View). x.0) g.after;
  has = subst HasTurn (sym g.after)
      record { turn = refl; fresh = fresh; value = g.value; slot = refl; goes = g.goes; gone = refl; bounded = g.learns.bounded; legal = g.learns.legal };
}

-- after some misses the turn was got
pub waits_of : (v u : View) (c : List (ℕ × DeskState)) (m : Me DeskState View) → v.missed ≤ u.missed → (1 + v.free + v.back ≡ v.key.passes → u.missed ≡ v.missed) → v.spent ≡ false → u ≡ record v { missed = u.missed }
    → GetsTurn (u, c) m → WaitsForTurn v m
waits_of v u c m later alone fresh is g = gets_at v u.missed c m later alone fresh (subst (λ (x : View). GetsTurn (x, c) m) is g)

-- what waits after a miss has waited since before it
pub waits_after : (v u m : Me DeskState View) → Misses v u → WaitsForTurn u.0 m → WaitsForTurn v.0 m
waits_after v u m miss late =
    let w : WaitsForTurn (missed_one v.0) m = subst (λ (x : View). WaitsForTurn x m) (ap (λ (x : Me DeskState View). x.0) miss.after) late in
    record {
      log = w.log;
      taken = w.taken;
      missed = w.missed;
      later = let from = w.later in omega arith;
      alone = λ e. let others = miss.others in absurd (omega arith);
      learns = record { bounded = w.learns.bounded; legal = w.learns.legal; bounds = w.learns.bounds; longer = w.learns.longer; others = w.learns.others; own = w.learns.own; gone = w.learns.gone; most = w.learns.most; plain = w.learns.plain; scribe = w.learns.scribe };
      view_is = w.view_is;
      has = w.has;
    }

-- the room that the desk finds is the room that the view knows of
left_for : (lasting : Bool) (room gone total taken rows live : ℕ) → room ≤ 1000000 → gone ≡ taken → taken + rows ≡ total → (lasting ≡ false → taken ≡ 0)
    → min room (2 ^ 53 - taken) - rows - live ≡ room_for lasting room gone total live
left_for true room gone total taken rows live small same all plain = omega arith
left_for false room gone total taken rows live small same all plain = let none = plain refl in omega arith

left_is : (v : View) (x : DeskState) (live : ℕ) → IsBounded v.key → GoesWith v.key v.seen x → v.gone ≡ x.taken → left_at x live ≡ room_of v live
left_is v x live bounded goes gone =
    ap (λ r. min r (2 ^ 53 - x.taken) - length x.history - live) goes.room
    ∙ left_for v.key.lasting v.key.room v.gone (length v.seen) x.taken (length x.history) live bounded.room gone (taken_within v.key v.seen x goes) goes.plain

-- what the slot has after an event, beside the log with its row
pub record GoesOn (v : View) (act : Act) (time : ℕ) (told : Told) (y : DeskState) : Type 0 where
  pub before : List Past
  pub row : y.history ≡ before ++ row_of v act time told ∷ []
  pub legal : IsLegal (opening v.key) (v.seen ++ row_of v act time told ∷ [])
  pub goes : GoesWith v.key (v.seen ++ row_of v act time told ∷ []) y
  pub gone : v.gone ≡ y.taken
  pub bounds : IsInBounds (row_of v act time told).event
  pub need : (c : Trace) → StandsFor (opening v.key) c → need_of (trace_seen v c) act ≤ room_of v (count_live (trace_seen v c))

pub applied : (v : View) (x : DeskState) (act : Act) (time : ℕ) (told : Told) (y : DeskState) → IsBounded v.key → GoesWith v.key v.seen x → v.gone ≡ x.taken
    → IsLegal (opening v.key) v.seen → Applies x v.number act time told y → GoesOn v act time told y
applied v x act time told y bounded goes gone legal a =
    let h = v.seen in
    let b = opening v.key in
    let p = row_of v act time told in
    let row' : y.history ≡ x.history ++ p ∷ [] = a.row ∙ ap (λ (k : ℕ). x.history ++ past v.number (event_by_clock k time act) told ∷ []) goes.clock in
    let order : clock_after b.clock h ≤ time_at (clock_after b.clock h) time = subst (λ k. k ≤ time_at k time) goes.clock a.order in
    let answer : (c : Trace) → StandsFor b c → told ≡ told_of b.spec (trace_after b.spec c h) p.event =
    (λ c s. subst (λ k. told ≡ told_of b.spec (trace_after b.spec c h) (event_by_clock k time act)) goes.clock
    (subst (λ q. told ≡ told_of q (trace_after b.spec c h) (event_by_clock x.revision.clock time act)) goes.spec (a.answer (trace_after b.spec c h) (goes.stands c s)))) in
    let stands : (c : Trace) → StandsFor b c → StandsFor y.revision (trace_after b.spec c (h ++ p ∷ [])) =
    (λ c s. subst (StandsFor y.revision) (sym (trace_after-one b.spec c h p))
    (subst (λ k. StandsFor y.revision (trace_after b.spec c h ++ react b.spec (trace_after b.spec c h) (event_by_clock k time act))) goes.clock
    (subst (λ q. StandsFor y.revision (trace_after b.spec c h ++ react q (trace_after b.spec c h) (event_by_clock x.revision.clock time act))) goes.spec
    (a.stands (trace_after b.spec c h) (goes.stands c s))))) in
    let len = length-append h (p ∷ []) in
    let events = a.events in
    let before = goes.events in
    record {
      before = x.history;
      row = row';
      legal = legal-one b h p legal order answer;
      goes = record {
        front = goes.front;
        whole = ap (λ l. l ++ p ∷ []) goes.whole ∙ (append_assoc goes.front x.history (p ∷ []) ∙ ap (λ l. goes.front ++ l) (sym row'));
        count = goes.count ∙ sym a.taken;
        plain = λ no. a.taken ∙ goes.plain no;
        room = a.room ∙ goes.room;
        spec = a.spec ∙ goes.spec;
        start = a.start ∙ goes.start;
        stands = stands;
        clock = a.clock ∙ (ap (λ k. time_at k time) goes.clock ∙ sym (clock_after-one b.clock h p));
        events = omega arith;
        fits = a.fits;
        few = a.few;
        addresses = a.addresses ∙ goes.addresses;
        book = λ c s.
            subst (IsBookOf y.book) (sym (trace_after-one b.spec c h p))
            (subst (λ k. IsBookOf y.book (trace_after b.spec c h ++ react b.spec (trace_after b.spec c h) (event_by_clock k time act))) goes.clock
            (subst (λ q. IsBookOf y.book (trace_after b.spec c h ++ react q (trace_after b.spec c h) (event_by_clock x.revision.clock time act))) goes.spec
            (a.book (trace_after b.spec c h) (goes.stands c s) (goes.book c s))));
        tally = λ c s.
            subst (IsTallyOf y.tally) (sym (made_by-one b.spec c h p))
            (subst (λ k. IsTallyOf y.tally (made_by b.spec c h ++ react b.spec (trace_after b.spec c h) (event_by_clock k time act))) goes.clock
            (subst (λ q. IsTallyOf y.tally (made_by b.spec c h ++ react q (trace_after b.spec c h) (event_by_clock x.revision.clock time act))) goes.spec
            (a.tally (trace_after b.spec c h) (made_by b.spec c h) (goes.stands c s) (goes.tally c s))));
      };
      gone = gone ∙ sym a.taken;
      bounds = subst (λ k. IsInBounds (event_by_clock k time act)) goes.clock a.bounds;
      need = λ c s. subst (λ n. need_of (trace_seen v c) act ≤ n) (left_is v x (count_live (trace_seen v c)) bounded goes gone) (a.need (trace_seen v c) (goes.stands c s));
    }

pub refused : (v : View) (x : DeskState) (act : Act) (full : Full) → IsBounded v.key → GoesWith v.key v.seen x → v.gone ≡ x.taken → IsTooSmall x act full
    → Overflows v act full
refused v x act full bounded goes gone r =
    let within = taken_within v.key v.seen x goes in
    let used = r.used in
    record {
      room = r.room ∙ goes.room;
      used = omega arith;
      live = λ c s. r.live (trace_seen v c) (goes.stands c s);
      short = λ c s. subst (λ n. n < need_of (trace_seen v c) act) (left_is v x (count_live (trace_seen v c)) bounded goes gone) (r.short (trace_seen v c) (goes.stands c s));
    }

-- the seat after the row was counted
pub recorded_is : (v : View) (act : Act) (time : ℕ) (told : Told) (y : DeskState) (m w : Me DeskState View) → GoesOn v act time told y → m.0 ≡ v → m.1 ≡ (0, y) ∷ []
    → w ≡ (recorded m.0 (m.0.seen ++ last_row y.history), m.1) → w ≡ (recorded v (v.seen ++ row_of v act time told ∷ []), (0, y) ∷ [])
recorded_is v act time told y m w on same slot is =
    is ∙ (ap₂ (λ (u : View) (l : List (ℕ × DeskState)). (recorded u (u.seen ++ last_row y.history), l)) same slot
    ∙ ap (λ (l : List Past). (recorded v (v.seen ++ l), (0, y) ∷ [])) (ap last_row on.row ∙ last_row-one on.before (row_of v act time told)))

-- a slot that is held alone was taken last
pub slot_first : (l : List (ℕ × DeskState)) (x : DeskState) → l ≡ (0, x) ∷ [] → l ≡ (0, x) ∷ rest l
slot_first l x e = e ∙ ap (λ k. (0, x) ∷ rest k) (sym e)

-- what the value in the slot became is what the seat has
pub applied_at : (l : List (ℕ × DeskState)) (z x y : DeskState) (number : ℕ) (act : Act) (time : ℕ) (told : Told) → l ≡ (0, z) ∷ rest l → l ≡ (0, x) ∷ []
    → Applies z number act time told y → (k : DeskState) × ((0, y) ∷ rest l ≡ (0, k) ∷ []) × Applies x number act time told k
applied_at l z x y number act time told lent slot a =
    let same : z ≡ x = ap (first_or z) (sym lent ∙ slot) in
    (y, ap (λ k. (0, y) ∷ rest k) slot, subst (λ k. Applies k number act time told y) same a)

pub applied_if : (l : List (ℕ × DeskState)) (z x y : DeskState) (number : ℕ) (act : Act) (time : ℕ) (told : Told) (r : Result (Unit {0}) Full) → l ≡ (0, z) ∷ rest l
    → l ≡ (0, x) ∷ [] → IfOk r (λ _. Applies z number act time told y) → IfOk r (λ _. (k : DeskState) × ((0, y) ∷ rest l ≡ (0, k) ∷ []) × Applies x number act time told k)
applied_if l z x y number act time told (Ok done) lent slot a = applied_at l z x y number act time told lent slot a
applied_if l z x y number act time told (Err full) lent slot a = a

-- what is counted of the value in the slot is counted of all that is seen
pub figures_seen : (v : View) (x : DeskState) (f : Figures) → GoesWith v.key v.seen x → v.gone ≡ x.taken
    → ((c counted : Trace) → StandsFor x.revision c → IsTallyOf x.tally counted → IsFiguresOf x.revision.spec c counted (x.taken + length x.history) x.taken f) → AreFiguresAt v f
figures_seen v x f goes gone of c s =
    let counted = made_by (opening v.key).spec c v.seen in
    subst (λ q. IsFiguresOf q (trace_seen v c) counted (length v.seen) v.gone f) goes.spec
    (subst (λ n. IsFiguresOf x.revision.spec (trace_seen v c) counted n v.gone f) (taken_within v.key v.seen x goes)
    (subst (λ n. IsFiguresOf x.revision.spec (trace_seen v c) counted (x.taken + length x.history) n f) (sym gone)
    (of (trace_seen v c) counted (goes.stands c s) (goes.tally c s))))
