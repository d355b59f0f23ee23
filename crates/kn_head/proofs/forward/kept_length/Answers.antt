use Rattle.std.proofs.Common.{◌+◌, [], cond, length, add-zero, refl, sym, ap, ◌∙◌}
use Rattle.kn_head.specs.Forwarding.{field_line, kept_lines}
use Rattle.kn_head.proofs.Keeping.{kept_longer}
use Rattle.kn_head.proofs.forward.kept_length.Goals as goal
use Rattle.kn_head.proofs.forward.kept_length.Goals.{then-is_kept+in_ok-field_length+in_ok-all, else-is_kept}

pub loop-field-init : goal.loop-field-init
unfolding kept_lines
loop-field-init c = refl

pub loop-field-preserved : goal.loop-field-preserved
loop-field-preserved c =
    let line = field_line c.field-item.result in
    let next = kept_longer c.args.chunked c.items-field-items.result.now c.loop-field.field-index c.loop-field.all c.field-item.result c.loop-field-test.true c.field-item.is c.loop-field.invariant in
    elim c.if-is_kept.branch [
      | then-is_kept+in_ok-field_length+in_ok-all w ↦
          w.all-is
          ∙ (w.in_ok-all.ensures.1 ∙ (ap (λ n. c.loop-field.all + n) w.in_ok-field_length.ensures ∙ (ap (λ b. c.loop-field.all + length (cond b line [])) w.if-is_kept.ensures ∙ next)))
      | else-is_kept w ↦ w.all-is ∙ (sym (add-zero c.loop-field.all) ∙ (ap (λ b. c.loop-field.all + length (cond b line [])) w.if-is_kept.ensures ∙ next))
    ]
