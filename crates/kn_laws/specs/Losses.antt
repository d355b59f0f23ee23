-- What becomes of a pod's requests when it is lost.
use Rattle.std.specs.Prelude.{◌≡◌, ℕ, true, List, [], ◌∷◌, ◌++◌, Option, None, Some, ⊤}
use Rattle.kn_event.specs.declared.entry.Row.{Row}
use Rattle.kn_event.specs.declared.entry.Row.TheVariants as row
use Rattle.kn_event.specs.declared.event.Act.TheVariants as act
use Rattle.kn_event.specs.declared.event.Event.{Event}
use Rattle.kn_event.specs.declared.revision.Spec.{Spec}
use Rattle.kn_event.specs.Lists.{contains}
use Rattle.kn_trace.specs.Trace.{Trace, at_pod, each_row, entry}
use Rattle.kn_trace.specs.Events.{expiries, react}

-- the request that ends with its pod
abbrev pub lost_by : Row → Option ℕ
lost_by (row.LostRequest r) = Some r
lost_by _ = None

-- the pod that is lost
abbrev pub lost_pod_by : Row → Option ℕ
lost_pod_by (row.LostPod p) = Some p
lost_pod_by _ = None

-- where an event loses a pod, each request that was there after its expiries has a lost row of the same event before it
abbrev pub LosesAll : Spec → Trace → Event → Type 0
LosesAll s c e = (p t : ℕ) (before rest : Trace) → react s c e ≡ before ++ entry t (row.LostPod p) ∷ rest
    → (r : ℕ) → contains r (at_pod (c ++ expiries s e.time c) p) ≡ true → contains r (each_row lost_by before) ≡ true

-- no event is the loss of a pod
abbrev pub AreNoLosses : List Event → Type 0
AreNoLosses [] = ⊤
AreNoLosses (e ∷ es) = ((p : ℕ) → e.act ≡ act.Lost p → ⊥) × AreNoLosses es

-- such events lose nobody and no pod
pub record LosesNothing (c : Trace) : Type 0 where
  pub requests : each_row lost_by c ≡ []
  pub pods : each_row lost_pod_by c ≡ []
