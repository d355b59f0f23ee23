-- The row of an act, by what the pods answer.
use Rattle.std.proofs.Common.{◌≡◌, ℕ, Bool, true, false, refl, sym, ◌∙◌, Some}
use Rattle.std.specs.Prelude.{if◌then◌else◌}
use Rattle.std.proofs.Math.Logic.{∥∥₁_elim}
use Rattle.kn_event.specs.declared.entry.Row.TheVariants as row
use Rattle.kn_event.specs.declared.event.Act.TheVariants as act
use Rattle.kn_event.specs.declared.revision.Spec.{Spec}
use Rattle.kn_event.specs.Lists.{contains}
use Rattle.kn_trace.specs.Events.{act_row}
use Rattle.kn_trace.specs.Trace.{Trace, is_starting, live_pods}
use Rattle.kn_record.specs.Admission.{Admission, is_starting_now, pods_in}
use Rattle.kn_record.specs.Made.{IsMade, IsRecordOf}
use Rattle.kn_record.specs.Views.{AreViews}
use Rattle.kn_pods.specs.Pods.{ArePodsOf}
use Rattle.kn_core.specs.State.{ArePartsOf, ArePartsOfSome, PartsState}
use Rattle.kn_core.proofs.Live.{bool_prop}

-- a pod whose row is Ready was Starting
starts : (s : Spec) (c : Trace) (p : ℕ) → act_row s c (act.Ready p) ≡ Some (row.Ready p) → (contains p (live_pods c) ≡ true) × (is_starting c p ≡ true)
unfolding act_row
starts s c p h = by (contains p (live_pods c)) (is_starting c p) refl refl h
  where
    by : (l t : Bool) → contains p (live_pods c) ≡ l → is_starting c p ≡ t → act_row s c (act.Ready p) ≡ Some (row.Ready p) → (contains p (live_pods c) ≡ true) × (is_starting c p ≡ true)
    by true true e f h = (e, f)
    by true false e f h = absurd (let g = rw (e, f) at h in cc)
    by false t e f h = absurd (let g = rw e at h in cc)

pub starting_there : ((s : Spec) (a : Admission) (c : Trace) → IsRecordOf a c → AreViews s a c) → (x : PartsState) → ArePartsOfSome x → (p : ℕ)
    → ((s : Spec) (c : Trace) → IsMade s c → ArePodsOf x.pods c → act_row s c (act.Ready p) ≡ Some (row.Ready p)) → contains p (pods_in is_starting_now x.throttle.admission.pods) ≡ true
starting_there views x some p said =
    ∥∥₁_elim some (bool_prop (contains p (pods_in is_starting_now x.throttle.admission.pods)) true)
    (λ (h : (c : Trace) × ArePartsOf x.throttle.spec x c).
    let found = starts x.throttle.spec h.0 p (said x.throttle.spec h.0 h.1.made h.1.pods) in
    sym ((views x.throttle.spec x.throttle.admission h.0 h.1.admission).is_starting p found.0) ∙ found.1)

pub limit_row : (s : Spec) (c : Trace) (p n : ℕ) (b : Bool) → b ≡ contains p (live_pods c) → act_row s c (act.Limit p n) ≡ Some (if b then row.Limit p n else row.NoPod p)
unfolding act_row
limit_row s c p n b e = rw e refl
