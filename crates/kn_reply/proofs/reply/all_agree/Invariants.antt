use Rattle.std.proofs.Common.{◌≡◌, true, take, map}
use Rattle.std.specs.List.{list_all}
use Rattle.httparse.specs.Spans.{header_bytes}
use Rattle.kn_reply.specs.Ends.{agrees}
use Rattle.kn_reply.proofs.reply.all_agree.Given as goal

abbrev pub invariant-loop-field : goal.invariant-loop-field
invariant-loop-field l = list_all (agrees l.count) (map (header_bytes l.text) (take l.field-index l.fields)) ≡ true
