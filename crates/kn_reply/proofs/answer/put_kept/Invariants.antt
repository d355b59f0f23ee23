use Rattle.std.proofs.Common.{◌≡◌, ◌++◌, take, map}
use Rattle.httparse.specs.Spans.{header_bytes}
use Rattle.kn_reply.specs.Closing.{kept_lines}
use Rattle.kn_reply.proofs.answer.put_kept.Given as goal

abbrev pub invariant-loop-field : goal.invariant-loop-field
invariant-loop-field l = l.out.items ≡ l.fn.out.items ++ kept_lines (map (header_bytes l.text) (take l.field-index l.fields))
