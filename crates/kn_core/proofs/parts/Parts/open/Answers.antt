use Rattle.std.proofs.Common.{◌∙◌, ◌++◌, sym, ap, subst, arith, List}
use Rattle.kn_event.specs.declared.entry.Entry.{Entry}
use Rattle.kn_event.specs.declared.revision.Spec.{Spec}
use Rattle.kn_trace.specs.Scale.{scale_rows}
use Rattle.kn_record.specs.Made.{IsRecordOf}
use Rattle.kn_record.specs.Order.{AreTimed}
use Rattle.kn_pods.specs.Pods.{ArePodsOf}
use Rattle.kn_throttle.specs.State.{State}
use Rattle.kn_core.specs.Opening.{first_rows}
use Rattle.kn_core.proofs.Openings.{beginning, nothing_created, nothing_drains, opening_rows}
use Rattle.kn_core.proofs.parts.Parts.open.Goals as goal

pub create-requires-clause-some : goal.create-requires-clause-some
create-requires-clause-some c =
    let s = c.args.spec.now in
    ∣ (
      s,
      first_rows s.kind s c.args.start,
      beginning c.append_laws.ensures.nothing c.append_laws.ensures.append c.row_laws.ensures.stands s c.args.start _ _ _ (rw (← c.spec.view_is) c.spec.invariant.ranges) (ap (λ (x : Spec). x.cc) (sym c.spec.view_is)) (ap (λ (y : State). y.admission) c.in_ok-throttle.ensures) c.in_ok-pods.ensures,
    ) ∣₁

pub create-requires-clause-draining : goal.create-requires-clause-draining
create-requires-clause-draining c = let none = nothing_drains _ c.in_ok-pods.ensures in omega (arith, none)

pub create-requires-clause-created : goal.create-requires-clause-created
create-requires-clause-created c = let none = nothing_created _ c.in_ok-pods.ensures in omega (arith, none)

pub returns-clause-stands : goal.returns-clause-stands
returns-clause-stands c =
    let s = c.args.spec.now in
    let b = beginning c.append_laws.ensures.nothing c.append_laws.ensures.append c.row_laws.ensures.stands s c.args.start _ _ _ (rw (← c.spec.view_is) c.spec.invariant.ranges) (ap (λ (x : Spec). x.cc) (sym c.spec.view_is)) (ap (λ (y : State). y.admission) c.in_ok-throttle.ensures) c.in_ok-pods.ensures in
    let rows = opening_rows s c.args.start _ _ c.count_of-count.ensures.value c.in_ok-pods.ensures b.pods in
    record {
      spec = c.create.ensures.nobody.spec ∙ ap (λ (y : State). y.spec) c.in_ok-throttle.ensures;
      made = c.step_laws.ensures.opening s c.args.start;
      admission = subst (IsRecordOf c.create.new.throttle.admission) (sym rows) (c.create.ensures.creates.admission s (first_rows s.kind s c.args.start) b);
      pods = subst (ArePodsOf c.create.new.pods) (sym rows) (c.create.ensures.creates.pods s (first_rows s.kind s c.args.start) b);
      scaler = c.in_ok-scaler.ensures.stands;
    }

pub returns-clause-timed : goal.returns-clause-timed
returns-clause-timed c = c.create.ensures.nobody.timed (subst (λ (y : State). AreTimed c.args.start y.admission) (sym c.in_ok-throttle.ensures) (c.time_laws.ensures.nothing c.args.start))

pub returns-clause-created : goal.returns-clause-created
returns-clause-created c = let none = nothing_created _ c.in_ok-pods.ensures in omega (arith, none, c.create.ensures.created)

pub returns-clause-logged : goal.returns-clause-logged
returns-clause-logged c =
    let s = c.args.spec.now in
    let b = beginning c.append_laws.ensures.nothing c.append_laws.ensures.append c.row_laws.ensures.stands s c.args.start _ _ _ (rw (← c.spec.view_is) c.spec.invariant.ranges) (ap (λ (x : Spec). x.cc) (sym c.spec.view_is)) (ap (λ (y : State). y.admission) c.in_ok-throttle.ensures) c.in_ok-pods.ensures in
    let rows = opening_rows s c.args.start _ _ c.count_of-count.ensures.value c.in_ok-pods.ensures b.pods in
    c.create.ensures.creates.logged s (first_rows s.kind s c.args.start) b
    ∙ ap (λ (es : List Entry). es ++ scale_rows s c.args.start (first_rows s.kind s c.args.start) c.count_of-count.result) (c.begin.ensures ∙ ap (λ (es : List Entry). es ++ first_rows s.kind s c.args.start) c.requires.empty)
    ∙ sym rows
