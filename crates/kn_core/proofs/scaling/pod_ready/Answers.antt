use Rattle.kn_core.proofs.Scalers.{unscaled_ready}
use Rattle.kn_core.proofs.scaling.pod_ready.Goals as goal

pub returns-in-None-clause-stands : goal.returns-in-None-clause-stands
returns-in-None-clause-stands c = rw c.in-None.is (λ s d p ready h. unscaled_ready s d c.args.time p h)

pub returns-in-Some-clause-stands : goal.returns-in-Some-clause-stands
returns-in-Some-clause-stands c = rw c.in-Some.is (λ s d p ready h. record { kind = h.kind; stands = c.pod_ready.ensures.stands s d p ready h.stands })
