use Rattle.std.proofs.Common.{◌≡◌, ◌++◌, [], cond, take, map, get_or, not, List, ℕ, sym, ap, ap₂, ◌∙◌, append-nil}
use Rattle.httparse.specs.Spans.{header_bytes}
use Rattle.kn_http.specs.Names.{connection_names, is_among}
use Rattle.kn_reply.specs.Closing.{field_line, kept_lines}
use Rattle.kn_reply.proofs.Wholes.{blank}
use Rattle.kn_reply.proofs.Written.{kept_next}
use Rattle.kn_reply.proofs.answer.put_kept.Goals as goal
use Rattle.kn_reply.proofs.answer.put_kept.Goals.{then-not-is_of_connection+in_ok-put_field, else-not-is_of_connection}

abbrev pair : List ℕ → List ℕ → List ℕ × List ℕ
pair a b = (a, b)

pub loop-field-init : goal.loop-field-init
unfolding kept_lines
loop-field-init c = sym (append-nil c.args.out.now.items)

pub loop-field-preserved : goal.loop-field-preserved
loop-field-preserved c =
    let text = c.args.text.now in
    let xs = c.args.fields.now in
    let i = c.loop-field.field-index in
    let f = header_bytes text (get_or xs i blank) in
    let before = c.args.out.now.items ++ kept_lines (map (header_bytes text) (take i xs)) in
    let next = kept_next c.args.out.now.items text xs i c.loop-field-test.true in
    let named : is_among connection_names f.0 ≡ c.is_of_connection.result =
    ap (is_among connection_names) (sym c.of-name.ensures) ∙ sym c.is_of_connection.ensures in
    elim c.if-not-is_of_connection.branch [
      | then-not-is_of_connection+in_ok-put_field w ↦
          ap (λ v. v.items) w.out-is ∙ (w.in_ok-put_field.ensures
          ∙ (ap₂ (λ a b. a ++ field_line b) c.loop-field.invariant (ap₂ pair c.of-name.ensures w.of.ensures)
          ∙ sym (next ∙ ap (λ b. before ++ cond b (field_line f) []) (ap not (named ∙ w.if-not-is_of_connection.true)))))
      | else-not-is_of_connection w ↦
          ap (λ v. v.items) w.out-is ∙ (c.loop-field.invariant
          ∙ sym (next ∙ (ap (λ b. before ++ cond b (field_line f) []) (ap not (named ∙ w.if-not-is_of_connection.false)) ∙ append-nil before)))
    ]
