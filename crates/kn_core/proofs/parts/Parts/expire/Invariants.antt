use Rattle.std.proofs.Common.{length}
use Rattle.kn_event.specs.declared.revision.Spec.{Spec}
use Rattle.kn_trace.specs.Events.{expiries}
use Rattle.kn_trace.specs.Trace.{Trace}
use Rattle.kn_record.specs.Made.{Holds, IsProper}
use Rattle.kn_core.specs.State.{ArePartsOf}
use Rattle.kn_core.specs.Changes.{LeavesParts, OnlyEnds}
use Rattle.kn_core.proofs.parts.Parts.expire.Given as goal

abbrev pub decreases-loop-r : goal.decreases-loop-r
decreases-loop-r l = length l.self.throttle.admission.live

-- so far the rows were made that come first
abbrev pub invariant-loop-r : goal.invariant-loop-r
invariant-loop-r l = record {
  on : (s : Spec) (c : Trace) → ArePartsOf s l.fn.self c → Holds (IsProper s) c (expiries s l.time c) → LeavesParts s (expiries s l.time) (expiries s l.time) c l.self l.fn.log l.log;
  ends : OnlyEnds l.time l.fn.self l.self l.fn.log l.log;
}
