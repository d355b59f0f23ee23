use Rattle.std.proofs.Common.{◌++◌, map, take, codes, ap, ◌∙◌}
use Rattle.httparse.specs.Ascii.{crlf_bytes}
use Rattle.httparse.specs.Spans.{header_bytes}
use Rattle.kn_reply.specs.Closing.{kept_lines, status_line, three_digits}
use Rattle.kn_reply.proofs.Written.{anew, as_came}
use Rattle.kn_reply.proofs.answer.put_head.Goals as goal

pub returns-then-head-eq101 : goal.returns-then-head-eq101
returns-then-head-eq101 c h parts =
    c.in_ok-put.ensures ∙ as_came c.args.out.now.items c.args.text.now c.args.spans.now c.args.head.now h parts c.if-head-eq101.true

pub returns : goal.returns
returns c h parts =
    let out = c.args.out.now.items in
    let r = c.args.head.now in
    let line = c.in_ok-put_status.ensures ∙ ap (λ q. out ++ status_line r.version (three_digits r.code) q) c.of.ensures in
    let rows = kept_lines (map (header_bytes c.args.text.now) (take r.headers c.args.spans.now)) in
    let last = codes "Connection: close" ++ crlf_bytes ++ crlf_bytes in
    c.in_ok-put-2.ensures
    ∙ (ap (λ l. l ++ last) (c.in_ok-put_kept.ensures ∙ ap (λ l. l ++ rows) line)
    ∙ anew out c.args.text.now c.args.spans.now r h parts c.if-head-eq101.false)
