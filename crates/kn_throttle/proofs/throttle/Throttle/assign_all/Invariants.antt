use Rattle.std.proofs.Common.{◌≡◌, ◌+◌, length}
use Rattle.kn_trace.specs.Trace.{Trace}
use Rattle.kn_trace.specs.Settling.{held_assignments}
use Rattle.kn_record.specs.Walks.{Leaves}
use Rattle.kn_record.specs.Made.{IsRecordOf}
use Rattle.kn_throttle.specs.Settling.{AddsNobody, LogsSteps, rows_left}
use Rattle.kn_throttle.proofs.throttle.Throttle.assign_all.Given as goal

abbrev pub decreases-loop-r : goal.decreases-loop-r
decreases-loop-r l = rows_left l.self.admission

-- so far the rows were made that come first
abbrev pub invariant-loop-r : goal.invariant-loop-r
invariant-loop-r l = record {
  on : (c : Trace) → IsRecordOf l.fn.self.admission c → Leaves (held_assignments l.fn.self.spec l.time) (held_assignments l.fn.self.spec l.time) c l.self.admission l.fn.log l.log;
  steps : LogsSteps l.fn.self.admission l.self.admission l.fn.log l.log;
  nobody : AddsNobody l.fn.self.admission l.self.admission;
  spec : l.self.spec ≡ l.fn.self.spec;
  room : length l.log + rows_left l.self.admission ≡ length l.fn.log + rows_left l.fn.self.admission;
}
