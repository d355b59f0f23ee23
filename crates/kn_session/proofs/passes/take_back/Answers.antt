use Rattle.std.proofs.Common.{◌<◌, sym, subst, ◌∙◌, arith, length}
use Rattle.std.specs.Prelude.{slice_index_or}
use Rattle.std.proofs.lemmas.List.{length-set, get_or_default}
use Rattle.kn_request.specs.declared.slot.Slot.{Slot}
use Rattle.kn_session.specs.Passes.{IsEmptied, HasPass}
use Rattle.kn_session.proofs.HandFacts.{took_one, done_more, rest_still}
use Rattle.kn_session.proofs.passes.take_back.Goals as goal

pub take_pass-requires-clause-found : goal.take_pass-requires-clause-found
take_pass-requires-clause-found g c =
    let l = c.loop-i in
    let d = c.index-slots-i.result in
    subst (λ (s : Slot g.row.C.Denot g.row.L.Denot). HasPass c.args.cell.now s.work.pass) (sym (l.invariant.rest l.i d (omega arith))) (c.requires.passes l.i d c.loop-i-test.true)

pub loop-i-preserved : goal.loop-i-preserved
loop-i-preserved g c =
    let l = c.loop-i in
    let i = l.invariant in
    let test = c.loop-i-test.true in
    let len = i.len in
    let within : l.i < length l.slots = omega arith in
    let d0 = c.index-slots-i.result in
    let s0 = slice_index_or l.slots l.i d0 in
    record {
      cell = c.take_pass.ensures.cell ∙ i.cell;
      pass = took_one (λ (s : Slot g.row.C.Denot g.row.L.Denot). s.work.pass) l.pass c.take_pass.new.pass c.args.slots.now l.i s0 d0 test (i.rest l.i d0 (omega arith)) c.take_pass.ensures.pass ∙ i.pass;
      len = length-set l.slots l.i c.take_pass.new.slot ∙ i.len;
      done = done_more (λ j s t. IsEmptied s t) c.args.slots.now l.slots l.i c.take_pass.new.slot within i.done
          (λ d. subst (λ (s : Slot g.row.C.Denot g.row.L.Denot). IsEmptied s c.take_pass.new.slot) (get_or_default l.slots l.i d0 d within ∙ i.rest l.i d (omega arith)) c.take_pass.ensures.emptied);
      rest = rest_still c.args.slots.now l.slots l.i c.take_pass.new.slot i.rest;
    }
