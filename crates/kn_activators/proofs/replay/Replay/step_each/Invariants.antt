use Rattle.std.proofs.Common.{◌≤◌, drop}
use Rattle.kn_activators.specs.Sharing.{by_each, numbers_of}
use Rattle.kn_activators.specs.Standing.{AreBefore, Grows, IsSameReplay}
use Rattle.kn_activators.proofs.Making.{Goes}
use Rattle.kn_activators.proofs.Standings.{one_below}
use Rattle.kn_activators.proofs.replay.Replay.step_each.Given as goal

abbrev pub invariant-loop-i : goal.invariant-loop-i
invariant-loop-i g l = record {
  goes : Goes (by_each l.fn.self.setup l.e (numbers_of l.fn.self.setup)) (by_each l.fn.self.setup l.e (drop l.i (numbers_of l.fn.self.setup))) l.fn.self l.self (g.O.Sink.held l.fn.out) (g.O.Sink.held l.out);
  same : IsSameReplay l.fn.self l.self;
  order : AreBefore l.e.time l.self.group;
  load : Grows (one_below l.i) l.fn.self.group l.self.group;
  later : g.O.Faulty.faults l.fn.out ≤ g.O.Faulty.faults l.out;
}
