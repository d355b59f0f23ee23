use Rattle.std.proofs.Common.{◌≡◌, length, take}
use Rattle.kn_head.specs.Forwarding.{kept_lines}
use Rattle.kn_head.proofs.forward.kept_length.Given as goal

abbrev pub invariant-loop-field : goal.invariant-loop-field
invariant-loop-field l = l.all ≡ length (kept_lines l.chunked (take l.field-index l.field-items))
