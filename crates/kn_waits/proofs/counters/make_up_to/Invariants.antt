use Rattle.std.proofs.Common.{◌≡◌, ◌+◌, ◌++◌, replicate, vec_len, vec_capacity}
use Rattle.kn_waits.proofs.counters.make_up_to.Given as goal

abbrev pub invariant-loop : goal.invariant-loop
invariant-loop l = record {
  items : l.made.items ≡ l.initial.made.items ++ replicate l.counter 0;
  count : vec_len l.made ≡ vec_len l.initial.made + l.counter;
  room : vec_capacity l.made ≡ vec_capacity l.initial.made;
}
