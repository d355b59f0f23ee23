use Rattle.std.proofs.Common.{◌≡◌, ◌∙◌, sym, ap, subst}
use Rattle.kn_trace.specs.Events.{losses}
use Rattle.kn_trace.specs.Trace.{Trace, live_pods}
use Rattle.kn_record.specs.Made.{IsMade}
use Rattle.kn_event.specs.declared.revision.Spec.{Spec}
use Rattle.kn_event.specs.Lists.{contains}
use Rattle.kn_pods.specs.Pods.{ArePodsOf}
use Rattle.kn_core.specs.State.{PartsState}
use Rattle.kn_core.proofs.Adding.{adds_none, adds_same, ends_none}
use Rattle.kn_core.proofs.Live.{live_there}
use Rattle.kn_core.proofs.After.{some_of_ready}
use Rattle.kn_core.proofs.Losses.{dead_losses, no_losses, nobody_alone, ready_losing}
use Rattle.kn_core.proofs.parts.Parts.lose.Goals as goal

-- the pod is live by every trace, so it is in the record
pub lose_all-requires-clause-there : goal.lose_all-requires-clause-there
lose_all-requires-clause-there c =
    sym (live_there c.append_laws.ensures.views c.args.self.now (some_of_ready (λ s d. losses c.args.time d c.args.act) c.args.self.now c.requires.some) c.in-Lost.p c.live.result (λ s d made pods. c.live.ensures.trace s d made (subst (λ (x : PartsState). ArePodsOf x.pods d) (sym c.self.view_is) pods))) ∙ c.if-live.true

pub lose_all-requires-clause-some : goal.lose_all-requires-clause-some
lose_all-requires-clause-some c =
    let trace : (s : Spec) (d : Trace) → IsMade s d → ArePodsOf c.args.self.now.pods d → c.live.result ≡ contains c.in-Lost.p (live_pods d) = λ s d made pods. c.live.ensures.trace s d made (subst (λ (x : PartsState). ArePodsOf x.pods d) (sym c.self.view_is) pods) in
    ready_losing c.walk_laws.ensures.losses c.args.time c.in-Lost.p c.args.act c.args.self.now c.in-Lost.is
    (λ s d h. sym (trace s d h.made h.pods) ∙ c.if-live.true) c.requires.some

pub returns-in_default : goal.returns-in_default
returns-in_default c = record {
  adds = adds_none _ _ c.args.self.now c.args.log.now (λ s d h. no_losses c.args.time d c.args.act c.in_default.not-Lost);
  ends = ends_none c.args.time c.args.self.now c.args.log.now c.requires.can.measured;
  alone = nobody_alone c.args.self.now.throttle.admission c.args.act c.in_default.not-Lost;
}

pub returns-then-live-clause-adds : goal.returns-then-live-clause-adds
returns-then-live-clause-adds c =
    let trace : (s : Spec) (d : Trace) → IsMade s d → ArePodsOf c.args.self.now.pods d → c.live.result ≡ contains c.in-Lost.p (live_pods d) = λ s d made pods. c.live.ensures.trace s d made (subst (λ (x : PartsState). ArePodsOf x.pods d) (sym c.self.view_is) pods) in
    adds_same _ _ c.args.self.now _ c.args.log.now _
    (λ s d h. ap (losses c.args.time d) c.in-Lost.is ∙ c.walk_laws.ensures.losses d c.args.time c.in-Lost.p (sym (trace s d h.made h.pods) ∙ c.if-live.true)) c.lose_all.ensures.adds

pub returns-else-live-clause-adds : goal.returns-else-live-clause-adds
returns-else-live-clause-adds c = rw (← c.self.view_is)
    (adds_none _ _ _ c.args.log.now (λ s d h. ap (losses c.args.time d) c.in-Lost.is ∙ dead_losses c.args.time d c.in-Lost.p (sym (c.live.ensures.trace s d h.made h.pods) ∙ c.if-live.false)))

pub returns-else-live-clause-ends : goal.returns-else-live-clause-ends
returns-else-live-clause-ends c = rw (← c.self.view_is) (ends_none c.args.time _ c.args.log.now (rw (← c.self.view_is) at c.requires.can.measured))

pub returns-else-live-clause-alone : goal.returns-else-live-clause-alone
returns-else-live-clause-alone c = rw (c.in-Lost.is) (λ there.
    let live = live_there c.append_laws.ensures.views c.args.self.now (some_of_ready (λ s d. losses c.args.time d c.args.act) c.args.self.now c.requires.some) c.in-Lost.p c.live.result (λ s d made pods. c.live.ensures.trace s d made (subst (λ (x : PartsState). ArePodsOf x.pods d) (sym c.self.view_is) pods)) in
    absurd (let off = sym c.if-live.false ∙ live ∙ there in cc))
