use Rattle.std.proofs.Common.{◌≡◌, false, take, map}
use Rattle.std.specs.List.{list_any}
use Rattle.httparse.specs.Spans.{header_bytes}
use Rattle.kn_reply.specs.Plain.{is_other_coding}
use Rattle.kn_reply.proofs.plain.has_other_coding.Given as goal

abbrev pub invariant-loop-field : goal.invariant-loop-field
invariant-loop-field l = list_any is_other_coding (map (header_bytes l.text) (take l.field-index l.fields)) ≡ false
