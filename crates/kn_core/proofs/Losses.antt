-- Who is lost with a pod.
use Rattle.std.proofs.Common.{◌≡◌, ℕ, true, false, [], refl, ap, subst, ◌∙◌}
use Rattle.std.proofs.Math.Logic.{∥∥₁_map}
use Rattle.kn_event.specs.declared.event.Act.{Act}
use Rattle.kn_event.specs.declared.event.Act.TheVariants as act
use Rattle.kn_event.specs.declared.revision.Spec.{Spec}
use Rattle.kn_event.specs.Lists.{contains}
use Rattle.kn_trace.specs.Events.{losses}
use Rattle.kn_trace.specs.Trace.{Trace, live_pods}
use Rattle.kn_record.specs.Admission.{Admission}
use Rattle.kn_record.specs.Made.{Holds, IsProper}
use Rattle.kn_record.specs.Walks.{losing}
use Rattle.kn_core.specs.State.{ArePartsOf, PartsState}
use Rattle.kn_core.specs.Changes.{IsAlone, IsReadyFor}

-- an act that loses no pod
abbrev pub LosesNone : Act → Type 0
LosesNone a = (p : ℕ) → a ≡ act.Lost p → ⊥

pub no_losses : (t : ℕ) (c : Trace) (a : Act) → LosesNone a → losses t c a ≡ []
unfolding losses
no_losses t c (act.Lost p) h = absurd (h p refl)
no_losses t c _ h = refl

pub nobody_alone : (a : Admission) (x : Act) → LosesNone x → IsAlone a x
nobody_alone a (act.Lost p) h = absurd (h p refl)
nobody_alone a _ h = tt

-- nor is anybody lost with a pod that isn't live
pub dead_losses : (t : ℕ) (c : Trace) (p : ℕ) → contains p (live_pods c) ≡ false → losses t c (act.Lost p) ≡ []
unfolding losses
dead_losses t c p h = rw h refl

-- the rows of a live pod that is lost are proper
pub ready_losing : ((c : Trace) (t p : ℕ) → contains p (live_pods c) ≡ true → losses t c (act.Lost p) ≡ losing t p c) → (t p : ℕ) (a : Act) (x : PartsState) → a ≡ act.Lost p
    → ((s : Spec) (c : Trace) → ArePartsOf s x c → contains p (live_pods c) ≡ true) → IsReadyFor (λ s c. losses t c a) x → IsReadyFor (λ s c. losing t p c) x
ready_losing law t p a x e live some =
    ∥∥₁_map some (λ (h : (c : Trace) × ArePartsOf x.throttle.spec x c × Holds (IsProper x.throttle.spec) c (losses t c a)).
    (h.0, h.1, subst (λ (es : Trace). Holds (IsProper x.throttle.spec) h.0 es) (ap (losses t h.0) e ∙ law h.0 t p (live x.throttle.spec h.0 h.1)) h.2))
