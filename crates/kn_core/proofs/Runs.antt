-- What follows where a revision stands for some trace.
use Rattle.std.proofs.Common.{◌≡◌, ℕ, ◌≤◌, sym, subst, arith, Option, None, Some}
use Rattle.std.proofs.Math.Bridge.{le_prop}
use Rattle.std.proofs.Math.Logic.{∥∥₁_elim, ∥∥₁_map}
use Rattle.kn_event.specs.declared.revision.Spec.{Spec}
use Rattle.kn_trace.specs.Laws.{IsSettled}
use Rattle.kn_trace.specs.Trace.{Trace, arrivals}
use Rattle.kn_record.specs.Admission.{Admission}
use Rattle.kn_record.specs.Made.{IsRecordOf}
use Rattle.kn_record.specs.Views.{AreViews}
use Rattle.kn_laws.specs.History.{IsMadeBy}
use Rattle.kn_scaler.specs.Stands.{ScalerState}
use Rattle.kn_core.specs.State.{ArePartsOf, ArePartsOfSome, IsMeasuredAt, IsMeasuredBy, RevisionState, StandsFor, StandsForSome}
use Rattle.kn_core.specs.Changes.{ArePartsOfSettled}

pub parts_of_some : (x : RevisionState) → x.parts.throttle.spec ≡ x.spec → StandsForSome x → ArePartsOfSome x.parts
parts_of_some x e some = ∥∥₁_map some (λ (h : (c : Trace) × StandsFor x c). (h.0, subst (λ (s : Spec). ArePartsOf s x.parts h.0) (sym e) h.1.parts))

pub parts_of_settled : ((s : Spec) (start clock count : ℕ) (c : Trace) → IsMadeBy s start clock count c → IsSettled s c)
    → (x : RevisionState) → x.parts.throttle.spec ≡ x.spec → StandsForSome x → ArePartsOfSettled x.parts
parts_of_settled settled x e some =
    ∥∥₁_map some (λ (h : (c : Trace) × StandsFor x c).
    (h.0, subst (λ (s : Spec). ArePartsOf s x.parts h.0) (sym e) h.1.parts, subst (λ (s : Spec). IsSettled s h.0) (sym e) (settled x.spec x.start x.clock x.events h.0 h.1.events)))

pub few_arrivals : ((s : Spec) (a : Admission) (c : Trace) → IsRecordOf a c → AreViews s a c)
    → ((s : Spec) (start clock count : ℕ) (c : Trace) → IsMadeBy s start clock count c → arrivals c ≤ count)
    → (x : RevisionState) → StandsForSome x → x.parts.throttle.admission.arrivals ≤ x.events
few_arrivals views most x some = ∥∥₁_elim some le_prop (λ (h : (c : Trace) × StandsFor x c).
    let same = (views x.spec x.parts.throttle.admission h.0 h.1.parts.admission).arrivals in
    let few = most x.spec x.start x.clock x.events h.0 h.1.events in omega (arith, same, few))

-- what is measured up to a time is so up to later ones
pub at_least : (t : ℕ) (o : Option ScalerState) → IsMeasuredAt t o → IsMeasuredBy t o
at_least t None h = tt
at_least t (Some y) h = omega (arith, h)

pub measured_later : (clock t : ℕ) (o : Option ScalerState) → clock ≤ t → IsMeasuredBy clock o → IsMeasuredBy t o
measured_later clock t None le h = tt
measured_later clock t (Some y) le h = omega (arith, le, h)
