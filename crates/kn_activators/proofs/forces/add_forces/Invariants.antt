use Rattle.std.proofs.Common.{◌≡◌, ◌≤◌, ◌++◌, List, drop}
use Rattle.std.specs.Prelude.{ℕ}
use Rattle.kn_activators.specs.Sharing.{force_lines}
use Rattle.kn_report.specs.Waiting.{Adds}
use Rattle.kn_activators.proofs.forces.add_forces.Given as goal

abbrev pub invariant-loop-p : goal.invariant-loop-p
invariant-loop-p g l = record {
  on : (text : List ℕ) × Adds (g.O.Sink.held l.fn.out) (g.O.Sink.held l.out) l.fn.waiting l.waiting text × (text ++ force_lines l.time l.p (drop l.p l.before) (drop l.p l.forces) ≡ force_lines l.time 0 l.before l.forces);
  later : g.O.Faulty.faults l.fn.out ≤ g.O.Faulty.faults l.out;
}
