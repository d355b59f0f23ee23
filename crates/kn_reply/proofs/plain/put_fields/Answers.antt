use Rattle.std.proofs.Common.{◌≡◌, ◌+◌, ◌++◌, take, drop, get_or, map, sym, subst, ap, ◌∙◌, arith, append_assoc, append-nil}
use Rattle.std.specs.List.{flat_map}
use Rattle.std.specs.Io.KnownBytes.{Appends}
use Rattle.std.proofs.KnownBytes.{Appends-trans}
use Rattle.std.proofs.lemmas.List.{take_all}
use Rattle.httparse.specs.Ascii.{crlf_bytes}
use Rattle.httparse.specs.Spans.{header_bytes}
use Rattle.kn_reply.specs.Plain.{other_lines}
use Rattle.kn_reply.proofs.Puts.{dropped_line, kept_line, line_of, lines_are, one_piece, pieces_from, puts_after, puts_of, stopped_in}
use Rattle.kn_reply.proofs.Wholes.{blank}
use Rattle.kn_reply.proofs.plain.put_fields.Goals as goal
use Rattle.kn_reply.proofs.plain.put_fields.Goals.{then-not-is_of_end+in-Ok, else-not-is_of_end}

pub returns-in-Err-clause-puts : goal.returns-in-Err-clause-puts
returns-in-Err-clause-puts g c =
    let text = c.args.text.now in
    let xs = c.args.fields.now in
    let i = c.loop-field.field-index in
    let x = get_or xs i blank in
    let done = flat_map (line_of text) (take i xs) in
    let more = flat_map (line_of text) (drop (i + 1) xs) in
    let line = kept_line text x c.of-name.result.now c.of.result.now c.of-name.ensures c.of.ensures
    (sym c.is_of_end.ensures ∙ c.if-not-is_of_end.true) in
    stopped_in _ _ _ (other_lines (map (header_bytes text) xs) ++ crlf_bytes) done ((line_of text x ++ more) ++ crlf_bytes) _ (more ++ crlf_bytes)
    (ap (λ l. l ++ crlf_bytes) (lines_are text xs ∙ pieces_from (line_of text) xs i blank c.loop-field-test.true)
    ∙ append_assoc done (line_of text x ++ more) crlf_bytes)
    (append_assoc (line_of text x) more crlf_bytes ∙ ap (λ l. l ++ (more ++ crlf_bytes)) line) c.loop-field.invariant.held c.in-Err.ensures.puts

pub loop-field-preserved : goal.loop-field-preserved
loop-field-preserved g c =
    let text = c.args.text.now in
    let xs = c.args.fields.now in
    let i = c.loop-field.field-index in
    let x = get_or xs i blank in
    let done = flat_map (line_of text) (take i xs) in
    let next = one_piece (line_of text) xs i blank c.loop-field-test.true in
    let before = c.loop-field.invariant in
    elim c.if-not-is_of_end.branch [
      | then-not-is_of_end+in-Ok w ↦
          let line = kept_line text x c.of-name.result.now w.of.result.now c.of-name.ensures w.of.ensures
          (sym c.is_of_end.ensures ∙ w.if-not-is_of_end.true) in
          rw w.out-is (record {
            held = subst (Appends _ _) (sym (next ∙ ap (λ l. done ++ l) line)) (Appends-trans _ _ _ done _ before.held w.in-Ok.ensures.puts);
            kept = w.in-Ok.ensures.kept_stays ∙ before.kept;
            never_falls = omega (arith, before.never_falls, w.in-Ok.ensures.cause.never_falls);
          })
      | else-not-is_of_end w ↦
          let line = dropped_line text x c.of-name.result.now c.of-name.ensures (sym c.is_of_end.ensures ∙ w.if-not-is_of_end.false) in
          rw w.out-is (record {
            held = subst (Appends _ _) (sym (next ∙ (ap (λ l. done ++ l) line ∙ append-nil done))) before.held;
            kept = before.kept;
            never_falls = before.never_falls;
          })
    ]

pub returns-clause-puts : goal.returns-clause-puts
returns-clause-puts g c =
    let text = c.args.text.now in
    let xs = c.args.fields.now in
    let i = c.loop-field.field-index in
    let all = take_all i xs (omega arith) in
    let lines : flat_map (line_of text) (take i xs) ≡ other_lines (map (header_bytes text) xs) =
    ap (flat_map (line_of text)) all ∙ sym (lines_are text xs) in
    puts_after _ _ _ c.put_all.result _ crlf_bytes (subst (Appends _ _) lines c.loop-field.invariant.held)
    (puts_of _ _ c.put_all.result crlf_bytes c.put_all.ensures.ok c.put_all.ensures.err)
