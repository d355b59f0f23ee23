use Rattle.std.proofs.Common.{ap, ◌∙◌, sym, subst, Some}
use Rattle.kn_core.specs.State.{ArePartsOf, PartsState}
use Rattle.kn_core.proofs.parts.Parts.finish.Goals as goal

pub returns-clause-row : goal.returns-clause-row
returns-clause-row c = λ s d h.
    let k = subst (λ (x : PartsState). ArePartsOf s x d) (sym c.self.view_is) h in
    c.finish-ran.ensures.row s d c.args.ok k.admission ∙ ap Some (sym c.own_of_finish.ensures)
