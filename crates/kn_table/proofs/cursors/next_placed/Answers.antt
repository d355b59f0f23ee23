use Rattle.std.proofs.Common.{◌≤◌, length, sym, arith}
use Rattle.std.proofs.lemmas.List.Sums.{prefix_len-le-length}
use Rattle.std.specs.Prelude.{not}
use Rattle.kn_table.specs.declared.slot.Slot.{Slot}
use Rattle.kn_table.specs.Slots.{first_placed, is_of_kind, is_placed}
use Rattle.kn_table.proofs.Firsts.{first_beyond, first_is}
use Rattle.kn_table.proofs.cursors.next_placed.Goals as goal

pub returns-then-is_placed : goal.returns-then-is_placed
returns-then-is_placed c = first_is (is_placed (is_of_kind c.args.kind)) c.args.slots.now c.loop-place.place _ c.loop-place.invariant c.loop-place-test.true (sym c.if-is_placed.ensures)

pub loop-place-preserved : goal.loop-place-preserved
loop-place-preserved c = first_beyond (is_placed (is_of_kind c.args.kind)) c.args.slots.now c.loop-place.place _ c.loop-place.invariant c.loop-place-test.true (sym c.if-is_placed.ensures)

pub returns : goal.returns
returns c =
    let most : first_placed (is_of_kind c.args.kind) c.args.slots.now ≤ length c.args.slots.now = prefix_len-le-length (λ (s : Slot). not (is_placed (is_of_kind c.args.kind) s)) c.args.slots.now in
    omega (arith, most, c.loop-place.invariant, c.loop-place-test.false)
