use Rattle.std.proofs.Common.{◌≡◌, ◌+◌, ◌∙◌, ap, subst, arith, refl, length}
use Rattle.std.proofs.lemmas.List.{get_or_default}
use Rattle.std.specs.Prelude.{slice_index_or, slice_set}
use Rattle.kn_core.specs.State.{RevisionState}
use Rattle.kn_slices.specs.Activators.{Goes, IsActivator}
use Rattle.kn_slices.proofs.Activators.{still_activator}
use Rattle.kn_slices.proofs.Calls.{each_has, each_set, group_after_call}
use Rattle.kn_slices.proofs.Spares.{other_forces}
use Rattle.kn_slices.proofs.group.taking.step_in.Goals as goal

pub refresh-requires-clause-pods : goal.refresh-requires-clause-pods
refresh-requires-clause-pods c p inside =
    let pods = length c.args.wanted.now in
    let x = c.index-parts-at-2.result in
    let y = c.step_part-told.new.part in
    let was = c.requires.group.activators c.args.i x c.requires.can.part in
    let goes = c.step_part-told.ensures.steps.goes pods was in
    let still = still_activator pods c.args.e.now (slice_index_or c.args.parts.now c.args.i x) y goes was c.step_part-told.ensures.steps.spec c.requires.act.some in
    each_has pods (slice_set c.args.parts.now c.args.i y) p (each_set (IsActivator pods) c.args.parts.now c.args.i y c.requires.can.part c.requires.group.activators still) inside

pub refresh-requires-clause-few : goal.refresh-requires-clause-few
refresh-requires-clause-few c p inside =
    let pods = length c.args.wanted.now in
    let x = c.index-parts-at-2.result in
    let y = c.step_part-told.new.part in
    let was = c.requires.group.activators c.args.i x c.requires.can.part in
    let goes = c.step_part-told.ensures.steps.goes pods was in
    let low = c.requires.low x y goes p inside in
    let each = c.requires.group.group.each p inside in
    let most = each.most in
    omega (arith, low, most)

pub refresh-requires-clause-others : goal.refresh-requires-clause-others
refresh-requires-clause-others c =
    let x = c.index-parts-at-2.result in
    let was = c.requires.group.activators c.args.i x c.requires.can.part in
    other_forces c.args.parts.now c.args.wanted.now c.args.force.now c.args.i c.args.e.now c.step_part-told.new.part x c.requires.can.part c.requires.group (c.step_part-told.ensures.steps.goes (length c.args.wanted.now) was)
    c.index-parts-at.result c.args.listed.now c.changed_pod-changed.result c.requires.others.others c.changed_pod-changed.ensures

pub returns-clause-group : goal.returns-clause-group
returns-clause-group c =
    let pods = length c.args.wanted.now in
    let x = c.index-parts-at-2.result in
    let y = c.step_part-told.new.part in
    let was = c.requires.group.activators c.args.i x c.requires.can.part in
    let go = c.step_part-told.ensures.steps.goes pods was in
    let goes = go in
    let still = still_activator pods c.args.e.now (slice_index_or c.args.parts.now c.args.i x) y go was c.step_part-told.ensures.steps.spec c.requires.act.some in
    group_after_call c.args.parts.now c.args.wanted.now c.args.force.now c.refresh.new.force c.args.i y x c.requires.can.part c.requires.group still (λ q low. c.requires.low x y goes q low) c.refresh.ensures

pub returns-clause-takes : goal.returns-clause-takes
returns-clause-takes c =
    let pods = length c.args.wanted.now in
    let parts = c.args.parts.now in
    let i = c.args.i in
    let x = c.index-parts-at-2.result in
    let y = c.step_part-told.new.part in
    let was = c.requires.group.activators i x c.requires.can.part in
    let at : (d : RevisionState) → slice_index_or parts i x ≡ slice_index_or parts i d = λ d. get_or_default parts i x d c.requires.can.part in
    record {
      part = y;
      changed = refl;
      goes = λ d. subst (λ z. Goes pods c.args.e.now z y) (at d) (c.step_part-told.ensures.steps.goes pods was);
      spec = λ d. c.step_part-told.ensures.steps.spec ∙ ap (λ (z : RevisionState). z.spec) (at d);
      start = λ d. c.step_part-told.ensures.steps.start ∙ ap (λ (z : RevisionState). z.start) (at d);
      clock = c.step_part-told.ensures.steps.clock;
      events = λ d. c.step_part-told.ensures.steps.events ∙ ap (λ (z : RevisionState). z.events + 1) (at d);
    }
