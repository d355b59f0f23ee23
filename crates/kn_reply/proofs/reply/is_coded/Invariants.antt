use Rattle.std.proofs.Common.{◌≡◌, false, take, map}
use Rattle.std.specs.List.{list_any}
use Rattle.httparse.specs.Spans.{header_bytes}
use Rattle.kn_reply.specs.Replies.{is_coding}
use Rattle.kn_reply.proofs.reply.is_coded.Given as goal

abbrev pub invariant-loop-field : goal.invariant-loop-field
invariant-loop-field l = list_any is_coding (map (header_bytes l.text) (take l.field-index l.fields)) ≡ false
