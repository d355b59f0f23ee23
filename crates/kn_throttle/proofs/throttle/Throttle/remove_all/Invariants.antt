use Rattle.std.proofs.Common.{◌≡◌, ◌+◌, length}
use Rattle.kn_trace.specs.Trace.{Trace}
use Rattle.kn_trace.specs.Settling.{removals}
use Rattle.kn_record.specs.Walks.{Leaves}
use Rattle.kn_record.specs.Made.{IsRecordOf}
use Rattle.kn_throttle.specs.Settling.{AddsNobody, LogsSteps, rows_left}
use Rattle.kn_throttle.proofs.throttle.Throttle.remove_all.Given as goal

abbrev pub decreases-loop-p : goal.decreases-loop-p
decreases-loop-p l = rows_left l.self.admission

-- so far the rows were made that come first
abbrev pub invariant-loop-p : goal.invariant-loop-p
invariant-loop-p l = record {
  on : (c : Trace) → IsRecordOf l.fn.self.admission c → Leaves (removals l.time) (removals l.time) c l.self.admission l.fn.log l.log;
  steps : LogsSteps l.fn.self.admission l.self.admission l.fn.log l.log;
  nobody : AddsNobody l.fn.self.admission l.self.admission;
  spec : l.self.spec ≡ l.fn.self.spec;
  room : length l.log + rows_left l.self.admission ≡ length l.fn.log + rows_left l.fn.self.admission;
}
