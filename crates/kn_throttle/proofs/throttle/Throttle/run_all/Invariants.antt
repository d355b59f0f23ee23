use Rattle.std.proofs.Common.{◌≡◌, ◌+◌, length}
use Rattle.kn_trace.specs.Trace.{Trace}
use Rattle.kn_record.specs.Views.{pod_numbers}
use Rattle.kn_record.specs.Walks.{Leaves, promoting}
use Rattle.kn_record.specs.Made.{IsRecordOf}
use Rattle.kn_throttle.specs.Settling.{AddsNobody, LogsSteps, rows_left}
use Rattle.kn_throttle.proofs.throttle.Throttle.run_all.Given as goal

abbrev pub decreases-loop-r : goal.decreases-loop-r
decreases-loop-r l = rows_left l.self.admission

-- so far the rows were made that come first
abbrev pub invariant-loop-r : goal.invariant-loop-r
invariant-loop-r l = record {
  on : (c : Trace) → IsRecordOf l.fn.self.admission c → Leaves (promoting l.time (pod_numbers l.fn.self.admission.pods)) (promoting l.time (pod_numbers l.fn.self.admission.pods)) c l.self.admission l.fn.log l.log;
  pods : l.self.admission.pods ≡ l.fn.self.admission.pods;
  steps : LogsSteps l.fn.self.admission l.self.admission l.fn.log l.log;
  nobody : AddsNobody l.fn.self.admission l.self.admission;
  spec : l.self.spec ≡ l.fn.self.spec;
  room : length l.log + rows_left l.self.admission ≡ length l.fn.log + rows_left l.fn.self.admission;
}
