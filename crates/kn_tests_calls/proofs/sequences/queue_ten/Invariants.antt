use Rattle.std.proofs.Common.{◌≡◌, ◌+◌}
use Rattle.std.specs.Prelude.{IsTrue}
use Rattle.kn_seats.specs.Pods.{has_pod, requests_at_all}
use Rattle.kn_tests_calls.proofs.sequences.queue_ten.Given as goal

abbrev pub invariant-loop-r : goal.invariant-loop-r
invariant-loop-r l = record {
  there : IsTrue (has_pod 0 l.seats.pods);
  counted : requests_at_all l.seats.pods + 5 ≡ l.r;
  room : l.seats.request_room ≡ 20;
}
