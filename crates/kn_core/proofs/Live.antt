-- What follows where the parts stand for some trace.
use Rattle.std.proofs.Common.{◌≡◌, ℕ, Bool, ◌≤◌, length, ap, ◌∙◌, arith}
use Rattle.std.proofs.lemmas.List.{length-map}
use denote.Struct.Props.{props}
use Rattle.std.proofs.Math.Bridge.{le_prop}
use Rattle.std.proofs.Math.Logic.{∥∥₁_elim}
use Rattle.std.proofs.lemmas.List.Elements.{All-weaker}
use Rattle.kn_event.specs.declared.revision.Spec.{Spec}
use Rattle.kn_event.specs.Lists.{contains}
use Rattle.kn_trace.specs.Trace.{Trace, live, live_pods}
use Rattle.kn_record.specs.declared.admission.Request.{Request}
use Rattle.kn_record.specs.Admission.{Admission}
use Rattle.kn_record.specs.Made.{IsMade, IsRecordOf}
use Rattle.kn_record.specs.Order.{AreTimed}
use Rattle.kn_record.specs.Views.{AreViews, pod_numbers}
use Rattle.kn_pods.specs.Pods.{ArePodsOf}
use Rattle.kn_core.specs.State.{ArePartsOf, ArePartsOfSome, PartsState}

pub bool_prop : (a b : Bool) → IsProp (a ≡ b)
bool_prop a b = hlevel props

module _ (views : (s : Spec) (a : Admission) (c : Trace) → IsRecordOf a c → AreViews s a c) (x : PartsState) where
  -- a pod that is live by every trace is in the record
  pub live_there : ArePartsOfSome x → (p : ℕ) (b : Bool) → ((s : Spec) (c : Trace) → IsMade s c → ArePodsOf x.pods c → b ≡ contains p (live_pods c)) → b ≡ contains p (pod_numbers x.throttle.admission.pods)
  live_there some p b of_trace =
      ∥∥₁_elim some (bool_prop b (contains p (pod_numbers x.throttle.admission.pods)))
      (λ h. of_trace x.throttle.spec h.0 h.1.made h.1.pods ∙ ap (contains p) (views x.throttle.spec x.throttle.admission h.0 h.1.admission).pods)

  pub live_same : (s : Spec) (c : Trace) → ArePartsOf s x c → length (live c) ≡ length x.throttle.admission.live
  live_same s c h = ap length (views s x.throttle.admission c h.admission).live ∙ length-map x.throttle.admission.live (λ (q : Request). q.number)

  pub few_live : ((s : Spec) (c : Trace) → IsMade s c → length (live c) ≤ 20000) → ArePartsOfSome x → length x.throttle.admission.live ≤ 20000
  few_live most some = ∥∥₁_elim some le_prop (λ h. let same = live_same x.throttle.spec h.0 h.1 in let few = most x.throttle.spec h.0 h.1.made in omega (arith, same, few))

-- the live requests came by a later time too
pub timed_later : (clock t : ℕ) (a : Admission) → clock ≤ t → AreTimed clock a → AreTimed t a
timed_later clock t a le h = record {
  ascend = h.ascend;
  past = All-weaker (λ (q : Request). q.time ≤ clock) (λ (q : Request). q.time ≤ t) (λ q k. omega arith) a.live h.past;
}
