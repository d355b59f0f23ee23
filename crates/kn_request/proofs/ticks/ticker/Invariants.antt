use Rattle.std.proofs.Common.{◌≡◌, ◌≤◌}
use Rattle.kn_request.specs.Ticking.{TurnsTo}
use Rattle.kn_request.proofs.ticks.ticker.Given as goal

abbrev pub invariant-loop : goal.invariant-loop
invariant-loop g l = record {
  cell : l.pass.cell ≡ l.cell;
  faults : g.L.Faulty.faults l.fn.keeper ≤ g.L.Faulty.faults l.keeper;
  turns : TurnsTo (g.K.Clock.reading l.clock) l.start l.fn.pass l.pass (g.L.PodLink.told l.fn.keeper) (g.L.PodLink.told l.keeper) l.last;
}
