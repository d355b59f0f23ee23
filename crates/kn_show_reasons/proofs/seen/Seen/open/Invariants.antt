use Rattle.std.proofs.Common.{◌≡◌, take, None}
use Rattle.kn_show_reasons.specs.State.{SeesPhase}
use Rattle.kn_show_reasons.proofs.seen.Seen.open.Given as goal

abbrev pub invariant-loop-e : goal.invariant-loop-e
invariant-loop-e l = record {
  sees : l.fn.self.phase ≡ None → SeesPhase l.self (take l.e-index l.e-items);
  lives : l.self.lives ≡ l.fn.self.lives;
}
