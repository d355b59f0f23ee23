use Rattle.std.proofs.Common.{Option, subst}
use Rattle.kn_scaler.specs.Stands.{ScalerState}
use Rattle.kn_core.specs.State.{IsScalerOf}
use Rattle.kn_core.proofs.Wanted.{none_wanted, some_wanted}
use Rattle.kn_core.proofs.parts.gauges.wanted_by.Goals as goal

pub returns-in-None : goal.returns-in-None
returns-in-None c = λ s d h.
    let k = subst (λ (o : Option ScalerState). IsScalerOf s o d) c.in-None.is h in
    none_wanted s d k.fixed

pub returns-in-Some : goal.returns-in-Some
returns-in-Some c = λ s d h.
    let k = subst (λ (o : Option ScalerState). IsScalerOf s o d) c.in-Some.is h in
    some_wanted s d c.want.result k.kind (c.want.ensures.trace s d k.stands)
