use Rattle.std.proofs.Common.{◌≡◌, ◌+◌, ◌≤◌, ◌++◌, length, take, drop}
use Rattle.kn_pods.specs.Pods.{GoesOn, after_rows, drain_order_of, drains}
use Rattle.kn_pods.proofs.pods.Pods.drain.Given as goal

abbrev pub invariant-loop : goal.invariant-loop
invariant-loop l = record {
  logged : l.log ≡ l.fn.log ++ drains l.time (take l.counter (drain_order_of l.fn.self));
  left : drain_order_of l.self ≡ drop l.counter (drain_order_of l.fn.self);
  draining : length l.self.draining ≤ length l.fn.self.draining + l.counter;
  changed : l.self ≡ after_rows (drains l.time (take l.counter (drain_order_of l.fn.self))) l.fn.self;
  goes : GoesOn l.fn.self l.self (drains l.time (take l.counter (drain_order_of l.fn.self)));
}
