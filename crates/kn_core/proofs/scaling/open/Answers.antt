use Rattle.std.proofs.Common.{◌∙◌, sym, ap}
use Rattle.kn_event.specs.declared.revision.Spec.{Spec}
use Rattle.kn_core.proofs.Openings.{opening_unscaled}
use Rattle.kn_core.proofs.scaling.open.Goals as goal

pub returns-in-Fixed-clause-stands : goal.returns-in-Fixed-clause-stands
returns-in-Fixed-clause-stands c = opening_unscaled c.args.spec.now c.args.start _ (ap (λ (x : Spec). x.kind) (sym c.spec.view_is) ∙ c.in-Fixed.is)
