use Rattle.std.proofs.Common.{◌∙◌, sym, subst}
use Rattle.kn_core.specs.State.{ArePartsOf, PartsState}
use Rattle.kn_core.proofs.Live.{live_same}
use Rattle.kn_core.proofs.parts.Parts.live.Goals as goal

pub returns-clause-live : goal.returns-clause-live
returns-clause-live c = λ s d h.
    let k = subst (λ (x : PartsState). ArePartsOf s x d) (sym c.self.view_is) h in
    c.live.ensures ∙ sym (live_same c.append_laws.ensures.views _ s d k)
