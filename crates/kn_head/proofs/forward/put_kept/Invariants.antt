use Rattle.std.proofs.Common.{◌≡◌, ◌≤◌, ◌++◌, take, vec_capacity}
use Rattle.kn_head.specs.Forwarding.{kept_lines}
use Rattle.kn_head.proofs.forward.put_kept.Given as goal

abbrev pub invariant-loop-field : goal.invariant-loop-field
invariant-loop-field l = record {
  bytes : l.out.items ≡ l.fn.out.items ++ kept_lines l.chunked (take l.field-index l.field-items);
  room : vec_capacity l.fn.out ≤ vec_capacity l.out;
}
