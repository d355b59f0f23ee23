use Rattle.std.proofs.Common.{◌≡◌, ◌<◌, ◌+◌, ◌-◌, ap, subst, ◌∙◌, arith, length}
use Rattle.std.specs.Prelude.{slice_index_or}
use Rattle.std.proofs.lemmas.List.{length-set, get_or_default}
use Rattle.kn_cell.specs.Shown.{PassView}
use Rattle.kn_session.specs.Passes.{IsGivenOf}
use Rattle.kn_session.proofs.HandFacts.{one_given, done_more, rest_still}
use Rattle.kn_session.proofs.passes.hand_out.Goals as goal

pub loop-i-preserved : goal.loop-i-preserved
loop-i-preserved g c =
    let l = c.loop-i in
    let i = l.invariant in
    let old = c.args.pass.now in
    let test = c.loop-i-test.true in
    let len = i.len in
    let within : l.i < length l.slots = omega arith in
    let few = c.requires.free in
    let small : l.i < old.free = omega arith in
    let s0 = slice_index_or l.slots l.i c.index-slots-i.result in
    let one : IsGivenOf c.args.cell.now old l.i s0 c.hand_pass.new.slot =
    one_given c.args.cell.now old l.pass l.i s0 c.hand_pass.new.slot i.pass small c.requires.low c.hand_pass.ensures.given in
    record {
      pass =
          let n : (old.free - l.i) - 1 ≡ old.free - (l.i + 1) = omega arith in
          c.hand_pass.ensures.pass ∙ (ap (λ (p : PassView). record p { free = p.free - 1 }) i.pass ∙ ap (λ k. record old { free = k }) n);
      len = length-set l.slots l.i c.hand_pass.new.slot ∙ i.len;
      done = done_more (λ j s t. IsGivenOf c.args.cell.now old j s t) c.args.slots.now l.slots l.i c.hand_pass.new.slot within i.done
          (λ d. subst (λ s. IsGivenOf c.args.cell.now old l.i s c.hand_pass.new.slot) (get_or_default l.slots l.i c.index-slots-i.result d within ∙ i.rest l.i d (omega arith)) one);
      rest = rest_still c.args.slots.now l.slots l.i c.hand_pass.new.slot i.rest;
    }

pub returns-clause-slots : goal.returns-clause-slots
returns-clause-slots g c =
    let l = c.loop-i in
    (l.invariant.len, λ j d low. l.invariant.done j d (let out = c.loop-i-test.false in let len = l.invariant.len in omega arith))
