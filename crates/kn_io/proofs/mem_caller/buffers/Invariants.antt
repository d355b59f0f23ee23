use Rattle.std.proofs.Common.{◌≡◌, ◌≤◌, [], All, vec_len, vec_capacity}
use Rattle.kn_io.proofs.mem_caller.buffers.Given as goal

abbrev pub invariant-loop : goal.invariant-loop
invariant-loop l = record {
  count : vec_len l.all ≡ l.counter;
  wide : All (λ b. (b.items ≡ []) × (l.room ≤ vec_capacity b)) l.all.items;
}
