use Rattle.std.proofs.Common.{◌-◌, ◌/◌, subst, sym, arith}
use Rattle.kn_table.specs.Slots.{IsWithin}
use Rattle.kn_table.proofs.Search.{lower_half, upper_half}
use Rattle.kn_table.proofs.slot.half.Goals.{then-slots-middle, else-slots-middle}
use Rattle.kn_table.proofs.slot.half.Goals as goal

pub returns-clause-within : goal.returns-clause-within
returns-clause-within c =
    let len = c.args.part.len in
    elim c.if-slots-middle.branch [
      | then-slots-middle w ↦ subst (λ from. IsWithin c.args.r c.args.slots.now from (len - len / 2)) (sym w.from-is)
          (upper_half c.args.r c.args.slots.now c.requires.order.numbers c.args.part.from len (len / 2) c.requires.within (omega arith) _ w.if-slots-middle.true)
      | else-slots-middle w ↦ subst (λ from. IsWithin c.args.r c.args.slots.now from (len - len / 2)) (sym w.from-is)
          (lower_half c.args.r c.args.slots.now c.requires.order.numbers c.args.part.from len (len / 2) c.requires.within (omega arith) _ w.if-slots-middle.false)
    ]
