use Rattle.std.proofs.Common.{subst, sym}
use Rattle.kn_core.specs.State.{ArePartsOfSome}
use Rattle.kn_core.proofs.Measured.{ready_some, scaler_of_parts}
use Rattle.kn_core.proofs.parts.Parts.advance.Goals as goal

pub advance-requires-clause-some : goal.advance-requires-clause-some
advance-requires-clause-some c = scaler_of_parts _ (subst ArePartsOfSome (sym c.self.view_is) c.requires.some)

pub returns-clause-stands : goal.returns-clause-stands
returns-clause-stands c = rw (← c.self.view_is) (λ s d h. record {
  spec = h.spec;
  made = h.made;
  admission = h.admission;
  pods = h.pods;
  scaler = c.advance.ensures.stands s d h.made (ready_some d c.count_ready-ready.result (c.count_ready-ready.ensures.trace d h.pods)) h.scaler;
})
