use Rattle.std.proofs.Common.{◌++◌, take, drop, map, sym, subst, ap, ◌∙◌, append_assoc, refl}
use Rattle.std.proofs.KnownBytes.{Appends-trans}
use Rattle.std.proofs.lemmas.List.{drop-drop}
use Rattle.httparse.specs.Ascii.{crlf_bytes}
use Rattle.httparse.specs.Spans.{header_bytes}
use Rattle.kn_io.specs.Prefix.{AppendsPrefix}
use Rattle.kn_reply.specs.Closing.{status_line, three_digits}
use Rattle.kn_reply.specs.Plain.{AreChunksOf, Puts, other_lines}
use Rattle.kn_reply.proofs.PlainHeads.{parts_are}
use Rattle.kn_reply.proofs.Puts.{puts_after, shorter, stopped_in}
use Rattle.kn_reply.proofs.plain.put_parts.Goals as goal

pub returns-in-Err-clause-puts : goal.returns-in-Err-clause-puts
returns-in-Err-clause-puts g c h =
    let parts = parts_are c.args.answer.now c.split_at.result.1.now c.split_at.result.0.now c.of-reason.result.now c.args.spans.now c.args.start
    c.args.head.now h c.split_at.ensures.front c.split_at.ensures.back c.of-reason.ensures in
    subst (AppendsPrefix (g.O.Sink.held c.args.out.now) (g.O.Sink.held c.put_start.new.out)) (sym parts) (shorter _ _ _ _ c.in-Err.ensures.puts)

pub returns-in-Err-put_fields-clause-puts : goal.returns-in-Err-put_fields-clause-puts
returns-in-Err-put_fields-clause-puts g c h =
    let parts = parts_are c.args.answer.now c.split_at.result.1.now c.split_at.result.0.now c.of-reason.result.now c.args.spans.now c.args.start
    c.args.head.now h c.split_at.ensures.front c.split_at.ensures.back c.of-reason.ensures in
    stopped_in _ _ _ _ _ _ _ h.value parts refl c.in-Ok.ensures.puts c.in-Err-put_fields.ensures.puts

pub returns-clause-puts : goal.returns-clause-puts
returns-clause-puts g c h =
    let r = c.args.head.now in
    let text = c.split_at.result.1.now in
    let parts = parts_are c.args.answer.now text c.split_at.result.0.now c.of-reason.result.now c.args.spans.now c.args.start
    r h c.split_at.ensures.front c.split_at.ensures.back c.of-reason.ensures in
    let first = c.split_at.result.0.now ++ status_line r.version (three_digits r.code) c.of-reason.result.now in
    let lines = other_lines (map (header_bytes text) (take r.headers c.args.spans.now)) ++ crlf_bytes in
    let place = c.split_at-2.ensures.back ∙ (ap (drop r.len) c.split_at.ensures.back ∙ drop-drop r.len c.args.start c.args.answer.now) in
    subst (Puts (g.O.Sink.held c.args.out.now) (g.O.Sink.held c.put_value.new.out) c.put_value.result)
    (append_assoc first lines h.value ∙ sym parts)
    (puts_after _ _ _ c.put_value.result (first ++ lines) h.value
    (Appends-trans _ _ _ first lines c.in-Ok.ensures.puts c.in-Ok-put_fields.ensures.puts)
    (c.put_value.ensures.puts h.value (subst (AreChunksOf h.value) (sym place) h.chunks)))
