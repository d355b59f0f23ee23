use Rattle.std.proofs.Common.{◌≡◌, ◌++◌, take, drop}
use Rattle.kn_event.specs.declared.revision.Spec.{Spec}
use Rattle.kn_trace.specs.Trace.{Trace}
use Rattle.kn_scaler.specs.Stands.{AreNextOfSome, AreNextRows, after_rows}
use Rattle.kn_scaler.proofs.scaler.Scaler.rows.Given as goal

-- the rows that are left come next, after those that were taken
abbrev pub invariant-loop-e : goal.invariant-loop-e
invariant-loop-e l = record {
  some : AreNextOfSome l.self (drop l.e-index l.added);
  next : (s : Spec) (c : Trace) → AreNextRows l.fn.self l.added s c → AreNextRows l.self (drop l.e-index l.added) s (c ++ take l.e-index l.added);
  stats : after_rows (drop l.e-index l.added) l.self.stats ≡ after_rows l.added l.fn.self.stats;
  time : l.self.stats.time ≡ l.fn.self.stats.time;
  decider : l.self.decider ≡ l.fn.self.decider;
}
