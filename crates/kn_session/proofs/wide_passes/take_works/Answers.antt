use Rattle.std.proofs.Common.{◌≡◌, ◌<◌, ap, sym, subst, ◌∙◌, arith, length}
use Rattle.std.specs.Prelude.{None, slice_index_or}
use Rattle.std.proofs.lemmas.List.{length-set, get_or_default, get_or-map}
use Rattle.atomic_table.specs.Seated.{TableId}
use Rattle.kn_cell.specs.Shown.{PassView}
use Rattle.kn_request.specs.declared.slot.Work.{Work}
use Rattle.kn_request.specs.Wide.{at_pass, passes_in}
use Rattle.kn_session.specs.Passes.{where_some}
use Rattle.kn_session.specs.WidePasses.{IsTakenOut}
use Rattle.kn_session.proofs.HandFacts.{done_more, rest_still}
use Rattle.kn_session.proofs.PlaceFacts.{set_each}
use Rattle.kn_session.proofs.wide_passes.take_works.Goals as goal

pub take_work-requires-clause-found : goal.take_work-requires-clause-found
take_work-requires-clause-found c p is =
    let l = c.loop-v in
    let i = l.invariant in
    let test = c.loop-v-test.true in
    let n1 = i.works_len in
    let n2 = c.requires.count in
    let w0 = c.index-works-v.result in
    let low : l.v < length c.args.works.now = omega arith in
    let there = get_or-map (λ (w : Work). w.pass) c.args.works.now l.v w0 None low ∙ (ap (λ (w : Work). w.pass) (sym (i.works_rest l.v w0 (omega arith))) ∙ is) in
    c.requires.found l.v c.index-cells-v.result p (omega arith) there ∙ sym c.index-cells-v.is

pub loop-v-preserved : goal.loop-v-preserved
loop-v-preserved c =
    let l = c.loop-v in
    let i = l.invariant in
    let test = c.loop-v-test.true in
    let firsts = c.args.firsts.now in
    let works = c.args.works.now in
    let n1 = i.firsts_len in
    let n2 = i.works_len in
    let n3 = c.requires.cells.0 in
    let n4 = c.requires.count in
    let within : l.v < length l.firsts = omega arith in
    let within' : l.v < length l.works = omega arith in
    let low : l.v < length works = omega arith in
    let x = c.take_work in
    let d0 = c.index-firsts-v.result in
    let w0 = c.index-works-v.result in
    let P = slice_index_or l.firsts l.v d0 in
    let W = slice_index_or l.works l.v w0 in
    let same : (d : PassView) → P ≡ slice_index_or firsts l.v d = λ d. get_or_default l.firsts l.v d0 d within ∙ i.firsts_rest l.v d (omega arith) in
    let same' : (d : Work) → W ≡ slice_index_or works l.v d = λ d. get_or_default l.works l.v w0 d within' ∙ i.works_rest l.v d (omega arith) in
    let found : W.pass ≡ at_pass (passes_in works) l.v = ap (λ (w : Work). w.pass) (same' w0) ∙ sym (get_or-map (λ (w : Work). w.pass) works l.v w0 None low) in
    let took : x.new.pass ≡ where_some (at_pass (passes_in works) l.v) P = x.ensures.pass ∙ ap (λ o. where_some o P) found in
    let of : (c' : TableId) → x.new.pass.cell ≡ slice_index_or c.args.cells.now l.v c' = λ c'. x.ensures.cell ∙ i.cells.1 l.v c' d0 (omega arith) in
    record {
      cells = (
        length-set l.firsts l.v x.new.pass ∙ i.cells.0,
        λ v c' p inside. set_each (λ j (q : PassView). q.cell ≡ slice_index_or c.args.cells.now j c') l.firsts l.v x.new.pass within (of c') v p (λ ne. i.cells.1 v c' p inside),
      );
      firsts_len = length-set l.firsts l.v x.new.pass ∙ i.firsts_len;
      firsts_done = done_more (λ j s t. t ≡ where_some (at_pass (passes_in works) j) s) firsts l.firsts l.v x.new.pass within i.firsts_done
          (λ d. subst (λ (v : PassView). x.new.pass ≡ where_some (at_pass (passes_in works) l.v) v) (same d) took);
      firsts_rest = rest_still firsts l.firsts l.v x.new.pass i.firsts_rest;
      works_len = length-set l.works l.v x.new.work ∙ i.works_len;
      works_done = done_more (λ j s t. IsTakenOut s t) works l.works l.v x.new.work within' i.works_done (λ d. subst (λ (w : Work). IsTakenOut w x.new.work) (same' d) x.ensures.work);
      works_rest = rest_still works l.works l.v x.new.work i.works_rest;
    }
