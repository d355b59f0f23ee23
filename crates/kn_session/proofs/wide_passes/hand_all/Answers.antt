use Rattle.std.proofs.Common.{◌≡◌, ◌<◌, ◌+◌, ◌-◌, refl, ap, sym, subst, ◌∙◌, arith, length}
use Rattle.std.specs.Prelude.{slice_index_or}
use Rattle.std.specs.Vec.{with_items}
use Rattle.std.proofs.lemmas.List.{length-set, get_or_default}
use Rattle.kn_cell.specs.Shown.{PassView}
use Rattle.kn_request.specs.declared.slot.WideSlot.{WideSlot}
use Rattle.kn_session.specs.WidePasses.{EachGiven, HasSame, IsGivenBy, MayGive, gave}
use Rattle.kn_session.proofs.HandFacts.{done_more, rest_still}
use Rattle.kn_session.proofs.PlaceFacts.{lent}
use Rattle.kn_session.proofs.SessionFacts.{some_of}
use Rattle.kn_session.proofs.wide_passes.hand_all.Goals as goal

pub hand_works-requires-clause-may : goal.hand_works-requires-clause-may
hand_works-requires-clause-may g c =
    let l = c.loop-i in
    let i = l.invariant in
    let test = c.loop-i-test.true in
    let n1 = i.firsts.0 in
    let n2 = c.requires.may.0 in
    let n3 = i.len in (
      n1 ∙ n2,
      λ v c' d low.
          let m = c.requires.may.1 v c' d low in
          let F = slice_index_or c.args.firsts.now v d in
          let free = m.free in
          let small = m.low in
          let it : MayGive 1 (slice_index_or c.args.cells.now v c') (gave l.i F) = record { of = m.of; free = omega arith; low = omega arith; blank = record { unseen = m.blank.unseen; whole = m.blank.whole } } in
          subst (MayGive 1 (slice_index_or c.args.cells.now v c')) (sym (i.firsts.1 v d (omega arith))) it,
    )

pub loop-i-preserved : goal.loop-i-preserved
loop-i-preserved g c =
    let l = c.loop-i in
    let i = l.invariant in
    let test = c.loop-i-test.true in
    let firsts = c.args.firsts.now in
    let slots = c.args.slots.now in
    let n1 = i.firsts.0 in
    let n2 = c.requires.may.0 in
    let n3 = i.len in
    let within : l.i < length l.slots = omega arith in
    let x = c.hand_works in
    let d0 = c.index-slots-i.result in
    let S = slice_index_or l.slots l.i d0 in
    let new : WideSlot g.row.C.Denot g.row.L.Denot = record S { works = with_items S.works x.new.works } in
    let a = c.requires.count l.i d0 test in
    let b = ap (λ (s : WideSlot g.row.C.Denot g.row.L.Denot). length s.works.items) (i.rest l.i d0 (omega arith)) in
    let e = ap length c.deref_mut.ensures.value in
    let e' = c.deref_mut.ensures.len in
    let m = x.ensures.works.0 in
    let n4 : length x.new.works ≡ S.works.len = omega arith in
    let back : new.works.items ≡ x.new.works = lent S.works.len x.new.works S.works.items n4 in
    let given : EachGiven firsts l.i x.new.works = (
      x.ensures.works.0 ∙ n1,
      λ v d w low.
          let F = slice_index_or firsts v d in
          let low' : v < length l.firsts = omega arith in
          let m = c.requires.may.1 v (some_of c.args.cells.now v (omega arith)) d (omega arith) in
          let free = m.free in
          let small = m.low in
          let is = i.firsts.1 v d low in
          let it : IsGivenBy (gave l.i F) ((gave l.i F).passes - (gave l.i F).free + 0) (slice_index_or x.new.works v w) = subst (λ (p : PassView). IsGivenBy p (p.passes - p.free + 0) (slice_index_or x.new.works v w)) is (x.ensures.works.1 v d w low') in
          let n : F.passes - (F.free - l.i) + 0 ≡ F.passes - F.free + l.i = omega arith in
          subst (λ k. IsGivenBy F k (slice_index_or x.new.works v w)) n it,
    ) in
    record {
      firsts = (
        x.ensures.firsts.0 ∙ n1,
        λ v d low.
            let F = slice_index_or firsts v d in
            let n : (F.free - l.i) - 1 ≡ F.free - (l.i + 1) = omega arith in
            x.ensures.firsts.1 v d (omega arith) ∙ (ap (gave 1) (i.firsts.1 v d low) ∙ ap (λ k. record F { free = k }) n),
      );
      len = length-set l.slots l.i new ∙ i.len;
      done = done_more (λ j s t. EachGiven firsts j t.works.items × HasSame s t) slots l.slots l.i new within i.done
          (λ d. let same : S ≡ slice_index_or slots l.i d = get_or_default l.slots l.i d0 d within ∙ i.rest l.i d (omega arith) in
          (subst (EachGiven firsts l.i) (sym back) given, subst (λ s. HasSame s new) same (refl, refl)));
      rest = rest_still slots l.slots l.i new i.rest;
    }

pub returns-clause-slots : goal.returns-clause-slots
returns-clause-slots g c =
    let i = c.loop-i.invariant in
    let out = c.loop-i-test.false in
    let n = i.len in
    (n, λ k d low. i.done k d (omega arith))
