use Rattle.std.proofs.Common.{◌≡◌, ◌⊎◌, ◌≤◌}
use Rattle.kn_cell.specs.Shown.{Looks}
use Rattle.kn_request.proofs.wait.wait_while.Given as goal

abbrev pub invariant-loop : goal.invariant-loop
invariant-loop g l = record {
  cell : l.pass.cell ≡ l.cell;
  mine : l.pass.mine ≡ l.fn.pass.mine;
  seen : (l.pass ≡ l.fn.pass) ⊎ Looks l.fn.pass l.pass;
  kept : g.C.Sink.kept l.caller ≡ g.C.Sink.kept l.fn.caller;
  held : g.C.Sink.held l.caller ≡ g.C.Sink.held l.fn.caller;
  faults : g.C.Faulty.faults l.fn.caller ≤ g.C.Faulty.faults l.caller;
}
