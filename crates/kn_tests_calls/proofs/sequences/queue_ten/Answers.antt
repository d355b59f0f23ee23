use Rattle.std.proofs.Common.{◌++◌, ◌∷◌, [], arith, refl}
use Rattle.std.proofs.lemmas.Grind.{common_steps}
use Rattle.kn_tests_calls.proofs.Numbers.{has_pod-changed}
use Rattle.kn_tests_calls.proofs.sequences.queue_ten.Goals as goal

pub loop-r-preserved : goal.loop-r-preserved
loop-r-preserved c =
    let same = has_pod-changed 0 0 (λ pod. record pod { queued = pod.queued ++ c.loop-r.r ∷ [] }) (λ _. refl) c.loop-r.seats.pods in
    record {
      there = grind (arith, common_steps, same, c.queue_at.ensures.queued, c.loop-r.invariant.there);
      counted = grind (arith, common_steps, c.queue_at.ensures.counted);
      room = grind (arith, common_steps, c.queue_at.ensures.queued);
    }
