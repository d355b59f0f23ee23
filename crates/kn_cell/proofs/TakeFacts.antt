-- The scribe takes all rows out.
use Rattle.std.proofs.Common.{◌≡◌, ℕ, ◌+◌, ◌≤◌, List, [], ◌∷◌, true, false, length, refl, sym, ap, ◌∙◌, subst, arith}
use Rattle.std.proofs.lemmas.List.{append-nil}
use mathlib.Core.Path.{ap₂}
use Rattle.atomic_table.specs.Table.{Me}
use Rattle.atomic_table.specs.Seated.{TableId}
use Rattle.kn_cell.specs.declared.past.Past.{Past}
use Rattle.kn_cell.specs.declared.view.View.{View}
use Rattle.kn_cell.specs.State.{DeskState}
use Rattle.kn_cell.specs.Desk.{emptied}
use Rattle.kn_cell.specs.Rule.{GoesBack, GoesWith, Learns, gives_back}
use Rattle.kn_cell.specs.Turns.{WaitsForTurn}
use Rattle.kn_cell.specs.Shown.{shown, LooksBy}
use Rattle.kn_cell.proofs.TakenMoves.{taken_within}
use Rattle.kn_cell.proofs.ShownFacts.{waited}

-- what is left in the slot can go home
emptied_back : (u : View) (x : DeskState) → GoesWith u.key u.seen x → u.gone ≡ x.taken → u.scribe ≡ true → u.key.lasting ≡ true → GoesBack u (emptied x)
emptied_back u x goes gone writes lasting =
    let within = taken_within u.key u.seen x goes in
    let fits = goes.fits in
    let few = goes.few in
    record {
      goes = record {
        front = u.seen;
        whole = sym (append-nil u.seen);
        count = sym within;
        plain = λ h. let not : true ≡ false = sym lasting ∙ h in cc;
        room = goes.room;
        spec = goes.spec;
        start = goes.start;
        stands = goes.stands;
        clock = goes.clock;
        events = goes.events;
        fits = omega arith;
        few = omega arith;
        addresses = goes.addresses;
        book = goes.book;
        tally = goes.tally;
      };
      gone = omega arith;
      same = λ h. let not : true ≡ false = sym writes ∙ h in cc;
    }

-- the seat u, whose view did not change since it got the turn, gives back what is left
pub taken_back : (v u : View) (m : Me DeskState View) (l : List (ℕ × DeskState)) → WaitsForTurn v m → v.scribe ≡ true → u ≡ m.0
    → ((x : DeskState) → m.1 ≡ (0, x) ∷ [] → l ≡ (0, emptied x) ∷ []) → (y : DeskState) × (l ≡ (0, y) ∷ []) × GoesBack u y
taken_back v u m l got writes same left =
    let h = got.has in
    let x = h.value in
    let has : m.0.scribe ≡ true = ap (λ (y : View). y.scribe) got.view_is ∙ writes in
    let lasting : m.0.key.lasting ≡ true = ap (λ (y : View). y.key.lasting) got.view_is ∙ (got.learns.scribe writes).1 in
    (emptied x, left x h.slot, subst (λ (y : View). GoesBack y (emptied x)) (sym same) (emptied_back m.0 x h.goes h.gone has lasting))

takes_still : (t : TableId) (v : View) (log : List Past) (taken k n : ℕ) → v.missed ≤ k → (1 + v.free + v.back ≡ v.key.passes → k ≡ v.missed) → Learns v log taken → taken + n ≡ length log
    → v.scribe ≡ true → LooksBy n (shown t v) (shown t (gives_back (waited v log taken k) (taken + n)))
takes_still t v log taken k n later alone l whole writes =
    let mine = l.scribe writes in
    let same = mine.0 in
    record {
      same = refl;
      missed = later;
      alone = alone;
      longer = l.longer;
      others = l.others;
      legal = l.legal;
      bounds = l.bounds;
      own = l.own;
      some = l.bounded.some;
      gone = omega arith;
      most = omega arith;
      plain = λ no. let not : true ≡ false = sym mine.1 ∙ no in cc;
      still = λ _. omega arith;
    }

pub looks_taken : (t : TableId) (v : View) (m w : Me DeskState View) (x : DeskState) → WaitsForTurn v m → GoesWith m.0.key m.0.seen x → m.0.gone ≡ x.taken → v.scribe ≡ true
    → w ≡ (gives_back m.0 (x.taken + length x.history), []) → LooksBy (length x.history) (shown t v) (shown t w.0)
looks_taken t v m w x got goes gone writes is =
    let n = length x.history in
    let u = waited v got.log got.taken got.missed in
    let within : x.taken + n ≡ length got.log = taken_within m.0.key m.0.seen x goes ∙ ap (λ (y : View). length y.seen) got.view_is in
    let same : got.taken ≡ x.taken = sym (ap (λ (y : View). y.gone) got.view_is) ∙ gone in
    let all : got.taken + n ≡ length got.log = omega arith in
    let taken_is : x.taken + n ≡ got.taken + n = omega arith in
    subst (λ (y : View). LooksBy n (shown t v) (shown t y)) (sym (ap (λ (y : Me DeskState View). y.0) is ∙ ap₂ gives_back got.view_is taken_is))
    (takes_still t v got.log got.taken got.missed n got.later got.alone got.learns all writes)
