use Rattle.std.proofs.Common.{◌+◌, ◌∙◌, ◌∷◌, refl, sym, ap, subst, arith, List, drop}
use Rattle.std.proofs.lemmas.List.{drop_all}
use Rattle.std.proofs.Math.Logic.{∥∥₁_map}
use Rattle.kn_event.specs.declared.entry.Entry.{Entry}
use Rattle.kn_record.specs.Walks.{stepped_by}
use Rattle.kn_throttle.specs.State.{State}
use Rattle.kn_core.specs.Following.{CanFollow}
use Rattle.kn_core.proofs.Ends.{nobody_then, nobody_yet}
use Rattle.kn_core.proofs.Following.{at_item}
use Rattle.kn_core.proofs.rows.follow.Goals as goal

pub loop-e-preserved : goal.loop-e-preserved
loop-e-preserved c =
    let es = c.args.entries.now in
    let e = c.e-item.result in
    let i = c.loop-e.e-index in
    let next = at_item es i e c.loop-e-test.true c.e-item.is in
    let after = c.follow_one.ensures.after e.time in
    record {
      can =
          ∥∥₁_map (subst (λ (l : List Entry). ∥ CanFollow c.loop-e.throttle.admission l ∥₁) next c.loop-e.invariant.can)
          (λ (h : CanFollow c.loop-e.throttle.admission (e ∷ drop (i + 1) es)). subst (λ (y : State). CanFollow y.admission (drop (i + 1) es)) (sym after) h.1);
      left =
          ap (λ (y : State). stepped_by (drop (i + 1) es) y.admission) after
          ∙ ap (λ (l : List Entry). stepped_by l c.loop-e.throttle.admission) (sym next)
          ∙ c.loop-e.invariant.left;
      nobody = λ t. nobody_then t c.args.throttle.now c.loop-e.throttle c.follow_one.new.throttle (c.loop-e.invariant.nobody t) (c.follow_one.ensures.nobody t);
    }

pub follow_one-requires : goal.follow_one-requires
follow_one-requires c =
    let es = c.args.entries.now in
    let e = c.e-item.result in
    let i = c.loop-e.e-index in
    ∥∥₁_map (subst (λ (l : List Entry). ∥ CanFollow c.loop-e.throttle.admission l ∥₁) (at_item es i e c.loop-e-test.true c.e-item.is) c.loop-e.invariant.can)
    (λ (h : CanFollow c.loop-e.throttle.admission (e ∷ drop (i + 1) es)). h.0)

pub loop-e-init : goal.loop-e-init
loop-e-init c = record { can = c.requires; left = refl; nobody = λ t. nobody_yet t c.args.throttle.now }

pub returns-clause-all : goal.returns-clause-all
returns-clause-all c =
    let es = c.args.entries.now in
    let here = c.loop-e.throttle in
    let last = ap (λ (l : List Entry). stepped_by l here.admission) (sym (drop_all c.loop-e.e-index es (omega arith))) ∙ c.loop-e.invariant.left in
    rw (sym last, sym (c.loop-e.invariant.nobody 0).spec) refl
