use Rattle.std.proofs.Common.{◌≡◌, map, take}
use Rattle.httparse.specs.Spans.{header_bytes}
use Rattle.kn_head.proofs.parts.copy_headers.Given as goal

abbrev pub invariant-loop-span : goal.invariant-loop-span
invariant-loop-span l = l.headers.items ≡ map (header_bytes l.bytes) (take l.span-index l.spans)
