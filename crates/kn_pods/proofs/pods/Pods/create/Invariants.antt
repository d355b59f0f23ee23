use Rattle.std.proofs.Common.{◌≡◌, ◌+◌, ◌++◌, length}
use Rattle.kn_pods.specs.Pods.{GoesOn, after_rows, creations, drain_order_of}
use Rattle.kn_pods.proofs.pods.Pods.create.Given as goal

abbrev pub invariant-loop : goal.invariant-loop
invariant-loop l = record {
  logged : l.log ≡ l.fn.log ++ creations l.limit l.time l.fn.self.created l.counter;
  created : l.self.created ≡ l.fn.self.created + l.counter;
  standing : length (drain_order_of l.self) ≡ length (drain_order_of l.fn.self) + l.counter;
  changed : l.self ≡ after_rows (creations l.limit l.time l.fn.self.created l.counter) l.fn.self;
  goes : GoesOn l.fn.self l.self (creations l.limit l.time l.fn.self.created l.counter);
}
