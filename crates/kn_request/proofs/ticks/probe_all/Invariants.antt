use Rattle.std.proofs.Common.{◌≡◌, ◌≤◌, ◌^◌}
use Rattle.kn_request.specs.Ticking.{Probing}
use Rattle.kn_request.proofs.ticks.probe_all.Given as goal

abbrev pub invariant-loop : goal.invariant-loop
invariant-loop g l = record {
  cell : l.pass.cell ≡ l.cell;
  probing : Probing l.now l.from l.full l.fn.pass l.pass (g.L.PodLink.told l.fn.keeper) (g.L.PodLink.told l.keeper);
  faults : g.L.Faulty.faults l.fn.keeper ≤ g.L.Faulty.faults l.keeper;
  low : l.from ≤ 2 ^ 63;
}
