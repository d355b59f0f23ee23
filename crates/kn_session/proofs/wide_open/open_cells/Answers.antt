use Rattle.std.proofs.Common.{◌≡◌, ◌<◌, ◌-◌, ap, sym, subst, ◌∙◌, arith, length, refl, inl, inr}
use Rattle.std.proofs.lemmas.Bool.{cases_eq}
use Rattle.std.specs.Prelude.{slice_index_or}
use Rattle.kn_core.specs.State.{RevisionState}
use Rattle.kn_session.specs.Session.{MayBegin}
use Rattle.kn_session.proofs.PlaceFacts.{front_of_last, last_of, one_less, pushed_last, pushed_left}
use Rattle.kn_session.proofs.wide_open.open_cells.Goals as goal

pub open_cell-requires-clause-revision : goal.open_cell-requires-clause-revision
open_cell-requires-clause-revision c =
    let l = c.loop-revision in
    let i = l.invariant in
    let b = c.in-Some.revision in
    let bs = c.args.revisions in
    let n1 = one_less l.revisions.items c.pop.new.self.items b c.in-Some.ensures.items in
    let n2 = i.cells in
    let n3 = bs.ok.0 in
    let v = length l.opened.cells.items in
    let k = length c.pop.new.self.items in
    let at : bs.len - 1 - k ≡ v = omega arith in
    let low : k < bs.len = omega arith in
    let turned = sym (ap (λ l. slice_index_or l k b) c.reverse.ensures.items) ∙ (c.reverse.ensures.by_index k b low ∙ ap (λ j. slice_index_or bs.items j b) at) in
    let is : slice_index_or bs.items v b ≡ b = sym turned ∙ last_of _ l.revisions.items c.pop.new.self.items b (length l.revisions.items) i.left refl c.in-Some.ensures.items b in
    subst MayBegin is (c.requires.revisions v b (omega arith))

pub loop-revision-preserved : goal.loop-revision-preserved
loop-revision-preserved c =
    let l = c.loop-revision in
    let i = l.invariant in
    let b = c.in-Some.revision in
    let bs = c.args.revisions in
    let cells = l.opened.cells.items in
    let firsts = l.opened.firsts.items in
    let ticks = l.opened.ticks.items in
    let cell = c.in_ok-cell.field-0.cell in
    let first = c.in_ok-cell.field-0.first in
    let tick = c.in_ok-cell.field-0.ticks in
    let x1 = c.push_reserved in
    let x2 = c.push_reserved-in-Some in
    let x3 = c.push_reserved-in-Some-2 in
    let n1 = one_less l.revisions.items c.pop.new.self.items b c.in-Some.ensures.items in
    let n2 = i.cells in
    let n3 = bs.ok.0 in
    let n4 = i.firsts in
    let n5 = i.ticks in
    let m1 = one_less x1.new.self.items cells cell x1.ensures.items in
    let m2 = one_less x2.new.self.items firsts first x2.ensures.items in
    let m3 = one_less x3.new.self.items ticks tick x3.ensures.items in
    let v = length cells in
    let k = length c.pop.new.self.items in
    let at : bs.len - 1 - k ≡ v = omega arith in
    let low : k < bs.len = omega arith in
    let turned = λ (d : RevisionState). sym (ap (λ l. slice_index_or l k d) c.reverse.ensures.items) ∙ (c.reverse.ensures.by_index k d low ∙ ap (λ j. slice_index_or bs.items j d) at) in
    let is : (d : RevisionState) → slice_index_or bs.items v d ≡ b = λ d. sym (turned d) ∙ last_of _ l.revisions.items c.pop.new.self.items b (length l.revisions.items) i.left refl c.in-Some.ensures.items d in
    let r1 = i.cells_room in
    let r2 = i.firsts_room in
    let r3 = i.ticks_room in
    let s1 = x1.ensures.capacity in
    let s2 = x2.ensures.capacity in
    let s3 = x3.ensures.capacity in
    record {
      left = front_of_last _ l.revisions.items c.pop.new.self.items b (length l.revisions.items) i.left refl c.in-Some.ensures.items;
      cells = omega arith;
      firsts = omega arith;
      ticks = omega arith;
      each = λ j d c' p low'. elim (cases_eq j v) [
        | inl e ↦
            let a = pushed_last cells x1.new.self.items cell j c' x1.ensures.items e in
            let a' = pushed_last firsts x2.new.self.items first j p x2.ensures.items (omega arith) in
            let a'' = pushed_last ticks x3.new.self.items tick j p x3.ensures.items (omega arith) in
            let is' : slice_index_or bs.items j d ≡ b = ap (λ m. slice_index_or bs.items m d) e ∙ is d in
            rw (is', a, a', a'') c.in_ok-cell.ensures
        | inr ne ↦
            let low'' : j < v = omega arith in
            let a = pushed_left cells x1.new.self.items cell j c' x1.ensures.items low'' in
            let a' = pushed_left firsts x2.new.self.items first j p x2.ensures.items (omega arith) in
            let a'' = pushed_left ticks x3.new.self.items tick j p x3.ensures.items (omega arith) in
            rw (a, a', a'') (i.each j d c' p low'')
      ];
      lasts = i.lasts;
      histories = i.histories;
      cells_room = omega arith;
      firsts_room = omega arith;
      ticks_room = omega arith;
      histories_room = i.histories_room;
    }
