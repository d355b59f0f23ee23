use Rattle.std.proofs.Common.{◌≡◌, false, take, map}
use Rattle.std.specs.List.{list_any}
use Rattle.httparse.specs.Spans.{header_bytes}
use Rattle.kn_reply.specs.Ends.{is_length}
use Rattle.kn_reply.proofs.reply.length_of.Given as goal

abbrev pub invariant-loop-field : goal.invariant-loop-field
invariant-loop-field l = list_any is_length (map (header_bytes l.text) (take l.field-index l.fields)) ≡ false
