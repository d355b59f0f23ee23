use Rattle.std.proofs.Common.{◌≡◌, ◌∙◌, sym, ap, subst, arith, List, drop, length, length-append, ◌++◌}
use Rattle.std.proofs.Math.Bridge.{le_prop}
use Rattle.std.proofs.Math.Logic.{∥∥₁_elim}
use Rattle.kn_event.specs.declared.entry.Entry.{Entry}
use Rattle.kn_event.specs.declared.revision.Spec.{Spec}
use Rattle.kn_trace.specs.Settling.{settling}
use Rattle.kn_record.specs.Made.{IsRecordOf}
use Rattle.kn_pods.specs.Pods.{PodsState}
use Rattle.kn_core.specs.State.{ArePartsOf, IsScalerOf, PartsState}
use Rattle.kn_core.specs.Scaling.{AreNextIn}
use Rattle.kn_core.specs.Changes.{after_removals}
use Rattle.kn_core.proofs.Created.{removals_created}
use Rattle.kn_core.proofs.Lists.{behind}
use Rattle.kn_core.proofs.Settled.{parts_settled, settled_next, settled_next_some}
use Rattle.kn_core.proofs.parts.Parts.settle.Goals as goal

pub remove_behind-requires : goal.remove_behind-requires
remove_behind-requires c =
    rw c.entries-before.ensures
    (∥∥₁_elim c.requires.some le_prop
    (λ h.
    let k = subst (λ (x : PartsState). ArePartsOf c.args.self.now.throttle.spec x h.0) (sym c.self.view_is) h.1 in
    rw (c.settle.ensures.logged h.0 k.admission) (omega (arith, length-append c.args.log.now (settling c.self.inside.throttle.spec c.args.time h.0)))))

pub rows_behind-requires-clause-first : goal.rows_behind-requires-clause-first
rows_behind-requires-clause-first c =
    rw c.entries-before.ensures
    (∥∥₁_elim c.requires.some le_prop
    (λ h.
    let k = subst (λ (x : PartsState). ArePartsOf c.args.self.now.throttle.spec x h.0) (sym c.self.view_is) h.1 in
    rw (c.settle.ensures.logged h.0 k.admission) (omega (arith, length-append c.args.log.now (settling c.self.inside.throttle.spec c.args.time h.0)))))

pub rows_behind-requires-clause-next : goal.rows_behind-requires-clause-next
rows_behind-requires-clause-next c =
    let x : PartsState = record { throttle = c.self.inside.throttle; pods = c.self.inside.pods; scaler = c.self.inside.scaler } in
    rw c.entries-before.ensures
    (settled_next_some c.kind_laws.ensures.settling c.kind_laws.ensures.settling_at x c.args.time (drop (length c.args.log.now) c.settle.new.log)
    (rw (← c.self.view_is) at c.requires.measured)
    (λ s d h. behind c.args.log.now (settling s c.args.time d) c.settle.new.log (subst (λ (z : Spec). c.settle.new.log ≡ c.args.log.now ++ settling z c.args.time d) h.spec (c.settle.ensures.logged d h.admission)))
    (rw (← c.self.view_is) at c.requires.some))

pub returns-clause-logged : goal.returns-clause-logged
returns-clause-logged c = rw (← c.self.view_is) (λ s d h. subst (λ (z : Spec). c.settle.new.log ≡ c.args.log.now ++ settling z c.args.time d) h.spec (c.settle.ensures.logged d h.admission))

pub returns-clause-adds : goal.returns-clause-adds
returns-clause-adds c = rw (← c.self.view_is) (record {
  logged = λ s d h proper. subst (λ (z : Spec). c.settle.new.log ≡ c.args.log.now ++ settling z c.args.time d) h.spec (c.settle.ensures.logged d h.admission);
  stands = λ s d h proper.
      let t = c.args.time in
      let here = subst (λ (z : Spec). IsRecordOf c.settle.new.self.admission (d ++ settling z t d)) h.spec (c.settle.ensures.stands d h.admission) in
      let logged = subst (λ (z : Spec). c.settle.new.log ≡ c.args.log.now ++ settling z t d) h.spec (c.settle.ensures.logged d h.admission) in
      let gone = rw c.entries-before.ensures at c.remove_behind.ensures in
      let added = behind c.args.log.now (settling s t d) c.settle.new.log logged in
      let pods = gone ∙ ap (λ (es : List Entry). after_removals es c.self.inside.pods) added in
      let heard = rw c.entries-before.ensures at (c.rows_behind.ensures.stands s d) in
      let next = settled_next _ t (settling s t d) s d (rw (← c.self.view_is) at c.requires.measured) (c.kind_laws.ensures.settling s t d) (c.kind_laws.ensures.settling_at s t d) proper h in
      let scaler = subst (λ (es : List Entry). IsScalerOf s c.rows_behind.new.scaler (d ++ es)) added (heard (subst (λ (es : List Entry). AreNextIn c.self.inside.scaler es s d) (sym added) next)) in
      parts_settled c.row_laws.ensures.made c.row_laws.ensures.stands s d (settling s t d) _ _
      (c.kind_laws.ensures.settling s t d) proper pods c.settle.ensures.spec here scaler h;
})

pub returns-clause-nobody : goal.returns-clause-nobody
returns-clause-nobody c = rw (← c.self.view_is) (record { spec = c.settle.ensures.spec; arrivals = c.settle.ensures.nobody.arrivals; timed = c.settle.ensures.nobody.timed c.args.time })

pub returns-clause-created : goal.returns-clause-created
returns-clause-created c = rw (← c.self.view_is) (ap (λ (p : PodsState). p.created) c.remove_behind.ensures ∙ removals_created (drop (length c.entries-before.result.now) c.settle.new.log) c.self.inside.pods)

pub returns-clause-measured : goal.returns-clause-measured
returns-clause-measured c = c.rows_behind.ensures.measured c.args.time (rw (← c.self.view_is) at c.requires.measured)
