use Rattle.std.proofs.Common.{◌≡◌, false, take, map}
use Rattle.std.specs.List.{list_any}
use Rattle.httparse.specs.Spans.{header_bytes}
use Rattle.kn_reply.specs.Replies.{is_chunks_coding}
use Rattle.kn_reply.proofs.reply.is_in_chunks.Given as goal

abbrev pub invariant-loop-field : goal.invariant-loop-field
invariant-loop-field l = list_any is_chunks_coding (map (header_bytes l.text) (take l.field-index l.fields)) ≡ false
