use Rattle.std.proofs.Common.{◌++◌, [], cond, take, length, vec_capacity, sym, ap, arith, ◌∙◌, append-nil}
use Rattle.kn_head.specs.Forwarding.{field_line, kept_lines}
use Rattle.kn_head.proofs.Keeping.{kept_fits, kept_next}
use Rattle.kn_head.proofs.forward.put_kept.Goals as goal
use Rattle.kn_head.proofs.forward.put_kept.Goals.{then-is_kept, else-is_kept}

pub loop-field-init : goal.loop-field-init
unfolding kept_lines
loop-field-init c = record { bytes = sym (append-nil c.args.out.now.items); room = omega arith }

pub put_field-requires : goal.put_field-requires
put_field-requires c =
    let fits = kept_fits c.args.out.now.items c.args.chunked c.items-field-items.result.now c.loop-field.field-index c.field-item.result c.loop-field-test.true c.field-item.is (sym c.if-is_kept.ensures) in
    let now = ap length c.loop-field.invariant.bytes in
    let room = c.loop-field.invariant.room in
    let same = ap (λ l. length (kept_lines c.args.chunked l)) c.items-field-items.ensures in
    omega (arith, fits, now, room, same, c.requires)

pub loop-field-preserved : goal.loop-field-preserved
loop-field-preserved c =
    let before = c.args.out.now.items ++ kept_lines c.args.chunked (take c.loop-field.field-index c.items-field-items.result.now) in
    let line = field_line c.field-item.result in
    let next = kept_next c.args.out.now.items c.args.chunked c.items-field-items.result.now c.loop-field.field-index c.field-item.result
    c.loop-field-test.true c.field-item.is in
    let was = c.loop-field.invariant.bytes in
    elim c.if-is_kept.branch [
      | then-is_kept w ↦ record {
        bytes = ap (λ v. v.items) w.out-is ∙ (w.put_field.ensures.bytes ∙ (ap (λ l. l ++ line) was ∙ sym (next ∙ ap (λ b. before ++ cond b line []) (sym w.if-is_kept.ensures))));
        room = let cap = ap vec_capacity w.out-is in let more = w.put_field.ensures.room in let was_cap = c.loop-field.invariant.room in omega (arith, cap, more, was_cap);
      }
      | else-is_kept w ↦ record {
        bytes = ap (λ v. v.items) w.out-is ∙ (was ∙ sym (next ∙ (ap (λ b. before ++ cond b line []) (sym w.if-is_kept.ensures) ∙ append-nil before)));
        room = let cap = ap vec_capacity w.out-is in let was_cap = c.loop-field.invariant.room in omega (arith, cap, was_cap);
      }
    ]
