use Rattle.std.proofs.Common.{◌≡◌, ◌<◌, refl, ap, sym, subst, ◌∙◌, arith, length}
use Rattle.std.specs.Prelude.{slice_index_or}
use Rattle.std.specs.Vec.{with_items}
use Rattle.std.proofs.lemmas.List.{length-set, get_or_default}
use Rattle.kn_request.specs.declared.slot.WideSlot.{WideSlot}
use Rattle.kn_request.specs.Wide.{at_pass, passes_in}
use Rattle.kn_session.specs.Passes.{where_some}
use Rattle.kn_session.specs.WidePasses.{EachTakenOut, HasSame, pass_at}
use Rattle.kn_session.proofs.HandFacts.{done_more, rest_still, took_one}
use Rattle.kn_session.proofs.PlaceFacts.{lent}
use Rattle.kn_session.proofs.wide_passes.take_all.Goals as goal

pub loop-i-preserved : goal.loop-i-preserved
loop-i-preserved g c =
    let l = c.loop-i in
    let i = l.invariant in
    let test = c.loop-i-test.true in
    let firsts = c.args.firsts.now in
    let slots = c.args.slots.now in
    let n1 = i.firsts_len in
    let n3 = i.len in
    let within : l.i < length l.slots = omega arith in
    let x = c.take_works in
    let d0 = c.index-slots-i.result in
    let S = slice_index_or l.slots l.i d0 in
    let new : WideSlot g.row.C.Denot g.row.L.Denot = record S { works = with_items S.works x.new.works } in
    let value : c.deref_mut.result.now ≡ S.works.items = c.deref_mut.ensures.value in
    let back : new.works.items ≡ x.new.works = lent S.works.len x.new.works S.works.items (x.ensures.works.0 ∙ c.deref_mut.ensures.len) in
    let out : EachTakenOut S.works.items new.works.items = subst (EachTakenOut S.works.items) (sym back) (subst (λ ws. EachTakenOut ws x.new.works) value x.ensures.works) in
    record {
      cells = x.ensures.cells;
      firsts_len = x.ensures.firsts.0 ∙ i.firsts_len;
      firsts = λ v d low.
          let took = x.ensures.firsts.1 v d (omega arith) ∙ ap (λ ws. where_some (at_pass (passes_in ws) v) (slice_index_or l.firsts v d)) value in
          took_one (pass_at v) (slice_index_or l.firsts v d) (slice_index_or x.new.firsts v d) slots l.i S d0 test (i.rest l.i d0 (omega arith)) took ∙ i.firsts v d low;
      len = length-set l.slots l.i new ∙ i.len;
      done = done_more (λ j s t. EachTakenOut s.works.items t.works.items × HasSame s t) slots l.slots l.i new within i.done
          (λ d. let same : S ≡ slice_index_or slots l.i d = get_or_default l.slots l.i d0 d within ∙ i.rest l.i d (omega arith) in
          subst (λ s. EachTakenOut s.works.items new.works.items × HasSame s new) same (out, (refl, refl)));
      rest = rest_still slots l.slots l.i new i.rest;
    }
