use Rattle.std.proofs.Common.{◌≡◌, ◌∙◌, ap, sym, subst, Some}
use Rattle.kn_event.specs.declared.event.Act.TheVariants as act
use Rattle.kn_event.specs.declared.revision.Spec.{Spec}
use Rattle.kn_trace.specs.Events.{act_row}
use Rattle.kn_core.specs.Firsts.{own_row}
use Rattle.kn_core.proofs.parts.Parts.arrive.Goals as goal

pub returns-clause-row : goal.returns-clause-row
returns-clause-row c = rw (← c.self.view_is) (λ s d h.
    subst (λ (z : Spec). act_row z d (act.Arrive c.args.tag) ≡ Some (own_row c.own_of_arrival.result)) h.spec
    (c.arrive-answer.ensures.row d c.args.tag h.admission (sym (c.mode-mode.ensures s d h.scaler)) ∙ ap Some (sym c.own_of_arrival.ensures)))
