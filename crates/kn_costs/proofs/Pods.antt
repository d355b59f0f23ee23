-- The live pods are Starting, Ready or draining.
use Rattle.std.proofs.Common.{◌≡◌, ℕ, ◌+◌, ◌-◌, ◌^◌, ◌≤◌, cond, List, [], ◌∷◌, map, length, refl, arith, min}
use Rattle.std.specs.List.{filter}
use Rattle.kn_event.specs.declared.revision.Spec.{Spec}
use Rattle.kn_trace.specs.Scale.{count_ready}
use Rattle.kn_trace.specs.Trace.{Trace, draining, live_pods, starting_pods}
use Rattle.kn_record.specs.Admission.{Admission, is_draining_now, is_ready_now, is_starting_now, pods_in}
use Rattle.kn_record.specs.Views.{AreViews, pod_numbers}
use Rattle.kn_record.specs.declared.admission.Pod.{Pod}
use Rattle.kn_record.specs.declared.admission.Readiness.{Readiness}
use Rattle.kn_record.specs.declared.admission.Readiness.TheVariants as readiness

in_three : (all : List Pod) → length (pods_in is_starting_now all) + length (pods_in is_ready_now all) + length (pods_in is_draining_now all) ≡ length (pod_numbers all)
in_three [] = refl
in_three (q ∷ qs) = by q.readiness (in_three qs)
  where
    by : (x : Readiness) → length (pods_in is_starting_now qs) + length (pods_in is_ready_now qs) + length (pods_in is_draining_now qs) ≡ length (pod_numbers qs)
        → length (map (λ (p : Pod). p.number) (cond (is_starting_now x) (q ∷ filter (λ (p : Pod). is_starting_now p.readiness) qs) (filter (λ (p : Pod). is_starting_now p.readiness) qs)))
        + length (map (λ (p : Pod). p.number) (cond (is_ready_now x) (q ∷ filter (λ (p : Pod). is_ready_now p.readiness) qs) (filter (λ (p : Pod). is_ready_now p.readiness) qs)))
        + length (map (λ (p : Pod). p.number) (cond (is_draining_now x) (q ∷ filter (λ (p : Pod). is_draining_now p.readiness) qs) (filter (λ (p : Pod). is_draining_now p.readiness) qs)))
        ≡ length (pod_numbers (q ∷ qs))
    by readiness.Starting h = omega (arith, h)
    by readiness.Ready h = omega (arith, h)
    by readiness.Draining h = omega (arith, h)

pub pods_in_three : (s : Spec) (a : Admission) (c : Trace) → AreViews s a c → length (starting_pods c) + count_ready c + length (draining c) ≡ length (live_pods c)
unfolding count_ready
pods_in_three s a c views = rw (views.starting, views.ready, views.draining, views.pods) (in_three a.pods)

-- sums that stop at the greatest number
pub unstopped : (a b d n one all : ℕ) → a + b + d ≡ n → n ≤ 20500 → one ≡ min (a + b) (2 ^ 64 - 1) → all ≡ min (one + d) (2 ^ 64 - 1) → all ≡ n
unstopped a b d n one all sum few first second = omega arith
