use Rattle.std.proofs.Common.{◌≡◌, ◌≤◌, ◌<◌, ◌+◌, ◌*◌, ◌^◌}
use Rattle.kn_trace.specs.Report.{totals}
use Rattle.kn_core.specs.State.{StandsFor}
use Rattle.kn_generate.specs.Generated.{generated_spec}
use Rattle.kn_replay.proofs.Generating.{generated_trace}
use Rattle.kn_replay.proofs.generate.generate.Given as goal

abbrev pub invariant-loop : goal.invariant-loop
invariant-loop g l = record {
  stands : StandsFor l.revision (generated_trace l.seed l.counter);
  counts : l.tally.totals ≡ totals (generated_trace l.seed l.counter);
  spec : l.revision.spec ≡ generated_spec;
  clock : l.revision.clock ≡ l.events.time;
  taken : l.revision.events ≡ l.counter;
  rows : l.tally.rows < 2 ^ 64 * (l.counter + 1);
  source : l.events.seed ≡ l.seed;
  made : l.events.made ≡ l.counter;
  soon : l.events.time ≤ 3 * l.counter;
}
