use Rattle.std.proofs.Common.{◌≡◌, ◌<◌, ◌+◌, ◌-◌, ℕ, subst, ◌∙◌, arith, length}
use Rattle.std.specs.Prelude.{slice_index_or}
use Rattle.std.proofs.lemmas.List.{length-set, get_or_default}
use Rattle.kn_cell.specs.Shown.{PassView}
use Rattle.kn_request.specs.declared.slot.Work.{Work}
use Rattle.kn_session.specs.WidePasses.{IsGivenBy, gave}
use Rattle.kn_session.proofs.HandFacts.{done_more, rest_still}
use Rattle.kn_session.proofs.PlaceFacts.{set_each}
use Rattle.kn_session.proofs.wide_passes.hand_works.Goals as goal

pub loop-v-preserved : goal.loop-v-preserved
loop-v-preserved c =
    let l = c.loop-v in
    let i = l.invariant in
    let test = c.loop-v-test.true in
    let firsts = c.args.firsts.now in
    let n1 = i.firsts_len in
    let n2 = i.works_len in
    let n3 = c.requires.may.0 in
    let n4 = c.requires.count in
    let within : l.v < length l.firsts = omega arith in
    let within' : l.v < length l.works = omega arith in
    let x = c.hand_work in
    let d0 = c.index-firsts-v.result in
    let P = slice_index_or l.firsts l.v d0 in
    let same : (d : PassView) → P ≡ slice_index_or firsts l.v d = λ d. get_or_default l.firsts l.v d0 d within ∙ i.firsts_rest l.v d (omega arith) in
    let Given : ℕ → Work → Type 0 = λ j w. (d : PassView) → IsGivenBy (slice_index_or firsts j d) ((slice_index_or firsts j d).passes - (slice_index_or firsts j d).free + 0) w in
    let plus : P.passes - P.free ≡ P.passes - P.free + 0 = omega arith in
    let it : IsGivenBy P (P.passes - P.free + 0) x.new.work = subst (λ k. IsGivenBy P k x.new.work) plus x.ensures.given in
    let here : Given l.v x.new.work = λ d. subst (λ (v : PassView). IsGivenBy v (v.passes - v.free + 0) x.new.work) (same d) it in
    record {
      firsts_len = length-set l.firsts l.v x.new.pass ∙ i.firsts_len;
      firsts_done = done_more (λ j s t. t ≡ gave 1 s) firsts l.firsts l.v x.new.pass within i.firsts_done (λ d. subst (λ (v : PassView). x.new.pass ≡ gave 1 v) (same d) x.ensures.pass);
      firsts_rest = rest_still firsts l.firsts l.v x.new.pass i.firsts_rest;
      works_len = length-set l.works l.v x.new.work ∙ i.works_len;
      works_done = λ j d w low. set_each Given l.works l.v x.new.work within' here j w (λ ne e. i.works_done j e w (omega arith)) d;
    }

pub returns-clause-works : goal.returns-clause-works
returns-clause-works c =
    let i = c.loop-v.invariant in
    let out = c.loop-v-test.false in
    let n1 = c.requires.may.0 in
    let n2 = c.requires.count in
    let n3 = i.works_len in
    (omega arith, λ v d w low. i.works_done v d w (omega arith))
