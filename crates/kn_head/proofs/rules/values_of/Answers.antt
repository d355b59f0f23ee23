use Rattle.std.proofs.Common.{◌+◌, take, sym, subst}
use Rattle.kn_head.specs.Fields.{values_named}
use Rattle.kn_head.specs.Rules.{AreValues}
use Rattle.kn_head.proofs.Values.{named_yes, named_no}
use Rattle.kn_head.proofs.rules.values_of.Goals as goal
use Rattle.kn_head.proofs.rules.values_of.Goals.{then-is_named, else-is_named}

pub loop-field-preserved : goal.loop-field-preserved
loop-field-preserved c =
    let known = c.args.known.now in
    let fields = c.items-field-items.result.now in
    let i = c.loop-field.field-index in
    let all = values_named known (take (i + 1) fields) in
    elim c.if-is_named.branch [
      | then-is_named w ↦
          let grown = named_yes known fields i c.field-item.result _ w.bytes-then-is_named.result.now c.loop-field-test.true c.field-item.is
          c.bytes.ensures w.bytes-then-is_named.ensures w.if-is_named.ensures in
          subst (AreValues all) (sym w.found-is)
          (subst (λ l. AreValues l w.with_value-found.result) (sym grown) (w.with_value-found.ensures _ c.loop-field.invariant))
      | else-is_named w ↦
          let same = named_no known fields i c.field-item.result _ c.loop-field-test.true c.field-item.is c.bytes.ensures w.if-is_named.ensures in
          subst (AreValues all) (sym w.found-is) (subst (λ l. AreValues l c.loop-field.found) (sym same) c.loop-field.invariant)
    ]
