use Rattle.std.proofs.Common.{◌≡◌, ◌<◌, ℕ, length}
use Rattle.kn_request.specs.Wide.{at_count}
use Rattle.kn_request.proofs.wide_ticks.set_all.Given as goal

abbrev pub invariant-loop-v : goal.invariant-loop-v
invariant-loop-v l = record {
  count : length l.lasts ≡ length l.fn.lasts;
  done : (u : ℕ) → u < l.v → at_count l.lasts u ≡ l.start;
}
