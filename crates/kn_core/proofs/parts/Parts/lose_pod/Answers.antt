use Rattle.std.proofs.Common.{◌≡◌, refl, Bool, true, false, rules, sym, subst, ◌∙◌, Some}
use Rattle.kn_event.specs.declared.event.Act.TheVariants as act
use Rattle.kn_trace.specs.Events.{act_row}
use Rattle.kn_pods.specs.Pods.{lost_row}
use Rattle.kn_core.specs.State.{ArePartsOf, ArePartsOfSome, PartsState}
use Rattle.kn_core.proofs.Live.{live_there}
use Rattle.kn_core.proofs.parts.Parts.lose_pod.Goals as goal

pub lose_pod-requires-clause-there : goal.lose_pod-requires-clause-there
lose_pod-requires-clause-there c =
    let lost : c.lost.result ≡ true = search rules in
    sym (live_there c.append_laws.ensures.views _ (subst ArePartsOfSome (sym c.self.view_is) c.requires.some) c.args.p c.lost.result
    (λ s d made pods. c.lost.ensures.value ∙ sym (c.row_laws.ensures.live s d c.args.p _ made pods)))
    ∙ lost

pub returns-then-lost-clause-row : goal.returns-then-lost-clause-row
returns-then-lost-clause-row c = λ s d h.
    let k = subst (λ (x : PartsState). ArePartsOf s x d) (sym c.self.view_is) h in
    let lost : c.lost.result ≡ true = search rules in
    subst (λ (b : Bool). act_row s d (act.Lost c.args.p) ≡ Some (lost_row c.args.p b)) lost (c.lost.ensures.act s d k.made k.pods)

pub returns-else-lost-clause-row : goal.returns-else-lost-clause-row
returns-else-lost-clause-row c = λ s d h.
    let k = subst (λ (x : PartsState). ArePartsOf s x d) (sym c.self.view_is) h in
    let lost : c.lost.result ≡ false = search rules in
    subst (λ (b : Bool). act_row s d (act.Lost c.args.p) ≡ Some (lost_row c.args.p b)) lost (c.lost.ensures.act s d k.made k.pods)

pub lose_pod-requires-clause-none : goal.lose_pod-requires-clause-none
lose_pod-requires-clause-none c = let alone = rw (← c.self.view_is) at c.requires.alone in alone (lose_pod-requires-clause-there c)

pub returns-then-lost-clause-adds : goal.returns-then-lost-clause-adds
returns-then-lost-clause-adds c = λ t. record { throttle = rw (c.lose_pod.ensures.after t, ← c.self.view_is) refl; scaler = rw (← c.self.view_is) refl; pods = let lost : c.lost.result ≡ true = search rules in rw (c.lost.ensures.changed, lost, ← c.self.view_is) refl }
