use Rattle.std.proofs.Common.{◌∙◌, ◌<◌, List, ap, arith, length, subst, sym}
use Rattle.std.specs.List.{All}
use Rattle.kn_lives.specs.declared.slots.Slot.{Slot}
use Rattle.kn_lives.specs.Slots.{AreAscending, live_of}
use Rattle.kn_lives.proofs.Marks.{live_of-swept, order-swept, swept_below, swept_count, swept_short}
use Rattle.kn_lives.proofs.slots.make_room.Goals as goal

pub returns-clause-order : goal.returns-clause-order
returns-clause-order c = subst AreAscending (sym c.sweep_for.ensures.items) (order-swept c.args.slots.now.items c.requires.order)

pub returns-clause-live : goal.returns-clause-live
returns-clause-live c = ap live_of c.sweep_for.ensures.items ∙ live_of-swept c.args.slots.now.items

pub returns-clause-short : goal.returns-clause-short
returns-clause-short c =
    let long = ap (λ (l : List Slot). length l) c.sweep_for.ensures.items in
    let less = swept_short c.args.slots.now.items in
    let short = c.requires.short in
    omega (arith, long, less, short)

pub returns-clause-room : goal.returns-clause-room
returns-clause-room c below few =
    let long = ap (λ (l : List Slot). length l) c.sweep_for.ensures.items in
    let count = swept_count c.args.slots.now.items in
    c.sweep_for.ensures.room
    (subst (λ l. All (λ (s : Slot). s.number < c.args.r) l) (sym c.sweep_for.ensures.items) (swept_below c.args.r c.args.slots.now.items below))
    (omega (arith, long, count, few))
