use Rattle.std.proofs.Common.{◌∙◌, List, ap, arith, length, subst, sym}
use Rattle.kn_lives.specs.declared.slots.Slot.{Slot}
use Rattle.kn_lives.specs.Slots.{AreAscending}
use Rattle.kn_lives.proofs.Marks.{order-swept, swept_short}
use Rattle.kn_lives.proofs.slots.sweep_for.Goals as goal

pub set_all-requires : goal.set_all-requires
set_all-requires c =
    let long = ap (λ (l : List Slot). length l) (c.deref.ensures.value ∙ c.sweep.ensures.items) in
    let less = swept_short c.args.slots.now.items in
    let short = c.requires.short in
    omega (arith, long, less, short)

pub has_room-requires : goal.has_room-requires
has_room-requires c =
    subst AreAscending (sym (c.deref-2.ensures.value ∙ c.sweep.ensures.items)) (order-swept c.args.slots.now.items c.requires.order)
