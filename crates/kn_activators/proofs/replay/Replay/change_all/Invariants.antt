use Rattle.std.proofs.Common.{◌≤◌, ◌-◌}
use Rattle.kn_activators.specs.Sharing.{changes, changes_most}
use Rattle.kn_activators.specs.Standing.{AreBefore, Grows, IsSameReplay, none}
use Rattle.kn_activators.proofs.Making.{Goes}
use Rattle.kn_activators.proofs.replay.Replay.change_all.Given as goal

abbrev pub invariant-loop-k : goal.invariant-loop-k
invariant-loop-k g l = record {
  goes : Goes (changes l.fn.self.setup l.time (changes_most l.fn.self.setup)) (changes l.fn.self.setup l.time (changes_most l.fn.self.setup - l.k)) l.fn.self l.self (g.O.Sink.held l.fn.out) (g.O.Sink.held l.out);
  same : IsSameReplay l.fn.self l.self;
  order : AreBefore l.time l.self.group;
  load : Grows none l.fn.self.group l.self.group;
  later : g.O.Faulty.faults l.fn.out ≤ g.O.Faulty.faults l.out;
}
