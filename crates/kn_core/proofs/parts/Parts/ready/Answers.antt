use Rattle.std.proofs.Common.{◌≡◌, refl, rules, sym, subst, Some}
use Rattle.kn_event.specs.declared.event.Act.TheVariants as act
use Rattle.kn_trace.specs.Events.{act_row}
use Rattle.kn_pods.specs.declared.pods.PodAnswer.{PodAnswer}
use Rattle.kn_pods.specs.declared.pods.PodAnswer.TheVariants as answer
use Rattle.kn_pods.specs.Answer.{row_of}
use Rattle.kn_core.specs.State.{ArePartsOfSome}
use Rattle.kn_core.proofs.Acts.{starting_there}
use Rattle.kn_core.proofs.parts.Parts.ready.Goals as goal

pub pod_ready-requires : goal.pod_ready-requires
pod_ready-requires c =
    let said : c.ready.result ≡ answer.Done = search rules in
    let p = c.args.p in
    starting_there c.append_laws.ensures.views _ (subst ArePartsOfSome (sym c.self.view_is) c.requires) p
    (λ s d made pods. subst (λ (x : PodAnswer). act_row s d (act.Ready p) ≡ Some (row_of p x)) said (c.ready.ensures.act s d made pods))

pub returns-in-Done-clause-adds : goal.returns-in-Done-clause-adds
returns-in-Done-clause-adds c = λ t. record { throttle = rw (c.pod_ready.ensures.after t, ← c.self.view_is) refl; scaler = rw (← c.self.view_is) refl; pods = let said : c.ready.result ≡ answer.Done = search rules in rw (c.ready.ensures.changed, said, ← c.self.view_is) refl }
