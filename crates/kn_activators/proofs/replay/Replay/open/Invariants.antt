use Rattle.std.proofs.Common.{◌≡◌, ◌≤◌, ◌++◌, List, drop}
use Rattle.std.specs.Prelude.{ℕ}
use Rattle.std.specs.List.{flat_map}
use Rattle.kn_activators.specs.Sharing.{numbers_of, opening_at, openings_text}
use Rattle.kn_report.specs.Waiting.{Adds, own_rows}
use Rattle.kn_activators.proofs.replay.Replay.open.Given as goal

abbrev pub invariant-loop-i : goal.invariant-loop-i
invariant-loop-i g l = record {
  on : (text : List ℕ) × Adds (g.O.Sink.held l.fn.out) (g.O.Sink.held l.out) l.fn.self.waiting l.self.waiting text
      × (text ++ flat_map (λ i. own_rows i (opening_at l.fn.self.setup l.fn.self.group.start i)) (drop l.i (numbers_of l.fn.self.setup)) ≡ openings_text l.fn.self.setup l.fn.self.group.start);
  group : l.self.group ≡ l.fn.self.group;
  setup : l.self.setup ≡ l.fn.self.setup;
  later : g.O.Faulty.faults l.fn.out ≤ g.O.Faulty.faults l.out;
}
