use Rattle.std.proofs.Common.{◌≡◌, ◌<◌, ◌-◌, ℕ, [], ap, sym, subst, ◌∙◌, arith, length, List, refl, take}
use Rattle.std.specs.Prelude.{slice_index_or}
use Rattle.atomic_table.specs.Seated.{TableId}
use Rattle.kn_cell.specs.declared.past.Past.{Past}
use Rattle.kn_cell.specs.Shown.{PassView, joined_shown}
use Rattle.kn_session.specs.Wide.{at_history}
use Rattle.kn_session.specs.WidePasses.{IsShut, MayCloseBy}
use Rattle.kn_session.proofs.PlaceFacts.{front_of_last, last_of, one_less, pushed_at}
use Rattle.kn_session.proofs.wide_close.close_cells.Goals as goal

pub close_cell-requires-clause-may : goal.close_cell-requires-clause-may
close_cell-requires-clause-may c =
    let l = c.loop-cell in
    let i = l.invariant in
    let cell = c.in-Some.cell in
    let first = c.take_last.result in
    let tick = c.take_last-in-Some.result in
    let v = length c.pop.new.self.items in
    let n1 = one_less l.cells.items c.pop.new.self.items cell c.in-Some.ensures.items in
    let n2 = one_less l.firsts.items c.take_last.new.self.items first c.take_last.ensures.items in
    let n3 = one_less l.ticks.items c.take_last-in-Some.new.self.items tick c.take_last-in-Some.ensures.items in
    let n4 = i.firsts_len in
    let n5 = i.ticks_len in
    let n6 = i.count in
    let e1 : slice_index_or c.args.cells.items v cell ≡ cell = last_of c.args.cells.items l.cells.items c.pop.new.self.items cell (length l.cells.items) i.cells refl c.in-Some.ensures.items cell in
    let e2 : slice_index_or c.args.firsts.items v first ≡ first =
    subst (λ k. slice_index_or c.args.firsts.items k first ≡ first) (omega arith) (last_of c.args.firsts.items l.firsts.items c.take_last.new.self.items first (length l.cells.items) i.firsts i.firsts_len c.take_last.ensures.items first) in
    let e3 : slice_index_or c.args.ticks.items v first ≡ tick =
    subst (λ k. slice_index_or c.args.ticks.items k first ≡ tick) (omega arith) (last_of c.args.ticks.items l.ticks.items c.take_last-in-Some.new.self.items tick (length l.cells.items) i.ticks i.ticks_len c.take_last-in-Some.ensures.items first) in
    let it = c.requires.may.each v cell first (omega arith) in
    subst (λ (x : TableId). MayCloseBy x first tick) e1 (subst (λ (p : PassView). MayCloseBy (slice_index_or c.args.cells.items v cell) p tick) e2
    (subst (λ (p : PassView). MayCloseBy (slice_index_or c.args.cells.items v cell) (slice_index_or c.args.firsts.items v first) p) e3 it))

pub close_cell-requires-clause-of : goal.close_cell-requires-clause-of
close_cell-requires-clause-of c = (close_cell-requires-clause-may c).closes.of

pub loop-cell-preserved : goal.loop-cell-preserved
loop-cell-preserved c =
    let l = c.loop-cell in
    let i = l.invariant in
    let cell = c.in-Some.cell in
    let first = c.take_last.result in
    let tick = c.take_last-in-Some.result in
    let n = length c.args.cells.items in
    let v = length c.pop.new.self.items in
    let n1 = one_less l.cells.items c.pop.new.self.items cell c.in-Some.ensures.items in
    let n2 = one_less l.firsts.items c.take_last.new.self.items first c.take_last.ensures.items in
    let n3 = one_less l.ticks.items c.take_last-in-Some.new.self.items tick c.take_last-in-Some.ensures.items in
    let n4 = i.firsts_len in
    let n5 = i.ticks_len in
    let n6 = i.count in
    let n7 = one_less c.push_reserved.new.self.items l.histories.items c.close_cell.result c.push_reserved.ensures.items in
    let m1 : length c.take_last.new.self.items ≡ v = omega arith in
    let m2 : length c.take_last-in-Some.new.self.items ≡ v = omega arith in
    let e2 : (p : PassView) → slice_index_or c.args.firsts.items v p ≡ first = λ p.
    subst (λ k. slice_index_or c.args.firsts.items k p ≡ first) m1 (last_of c.args.firsts.items l.firsts.items c.take_last.new.self.items first (length l.cells.items) i.firsts i.firsts_len c.take_last.ensures.items p) in
    let e3 : (p : PassView) → slice_index_or c.args.ticks.items v p ≡ tick = λ p.
    subst (λ k. slice_index_or c.args.ticks.items k p ≡ tick) m2 (last_of c.args.ticks.items l.ticks.items c.take_last-in-Some.new.self.items tick (length l.cells.items) i.ticks i.ticks_len c.take_last-in-Some.ensures.items p) in
    let Closed : PassView → ℕ → List Past → Type 0 = λ p k h. IsShut (joined_shown (slice_index_or c.args.firsts.items (n - 1 - k) p) (slice_index_or c.args.ticks.items (n - 1 - k) p)) h in
    let at : n - 1 - length l.histories.items ≡ v = omega arith in
    let here : (p : PassView) → Closed p (length l.histories.items) c.close_cell.result = λ p.
    rw (at, e2 p, e3 p) c.close_cell.ensures in
    record {
      cells = front_of_last c.args.cells.items l.cells.items c.pop.new.self.items cell (length l.cells.items) i.cells refl c.in-Some.ensures.items;
      firsts = subst (λ k. c.take_last.new.self.items ≡ take k c.args.firsts.items) m1 (front_of_last c.args.firsts.items l.firsts.items c.take_last.new.self.items first (length l.cells.items) i.firsts i.firsts_len c.take_last.ensures.items);
      ticks = subst (λ k. c.take_last-in-Some.new.self.items ≡ take k c.args.ticks.items) m2
          (front_of_last c.args.ticks.items l.ticks.items c.take_last-in-Some.new.self.items tick (length l.cells.items) i.ticks i.ticks_len c.take_last-in-Some.ensures.items);
      firsts_len = m1;
      ticks_len = m2;
      count = omega arith;
      closed = λ k p low.
          subst (λ hs. Closed p k (at_history hs k)) (sym c.push_reserved.ensures.items)
          (pushed_at (Closed p) l.histories.items c.close_cell.result k [] (omega arith) (λ low'. i.closed k p low') (here p));
      room = let r = i.room in let r' = c.push_reserved.ensures.capacity in omega arith;
    }

pub returns-clause-closed : goal.returns-clause-closed
returns-clause-closed c v p low =
    let l = c.loop-cell in
    let i = l.invariant in
    let n = length c.args.cells.items in
    let e = c.in_default.ensures.cases in
    let e' = l.cells.ok.0 in
    let n6 = i.count in
    let h = l.histories in
    let n7 = h.ok.0 in
    let low' : v < h.len = omega arith in
    let k = n - 1 - v in
    let at : h.len - 1 - v ≡ k = omega arith in
    let back : n - 1 - k ≡ v = omega arith in
    let is = c.reverse.ensures.by_index v [] low' ∙ ap (λ j. at_history h.items j) at in
    let it : IsShut (joined_shown (slice_index_or c.args.firsts.items v p) (slice_index_or c.args.ticks.items v p)) (at_history h.items k) =
    subst (λ j. IsShut (joined_shown (slice_index_or c.args.firsts.items j p) (slice_index_or c.args.ticks.items j p)) (at_history h.items k)) back (i.closed k p (omega arith)) in
    subst (IsShut (joined_shown (slice_index_or c.args.firsts.items v p) (slice_index_or c.args.ticks.items v p))) (sym is) it
