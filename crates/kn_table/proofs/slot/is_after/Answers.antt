use Rattle.std.proofs.Common.{◌≤◌, arith}
use Rattle.std.proofs.lemmas.Bool.Decides.{nat_tests}
use Rattle.kn_table.proofs.Search.{above_last, after_last}
use Rattle.kn_table.proofs.slot.is_after.Goals as goal

pub returns-then-slot-request-clause-above : goal.returns-then-slot-request-clause-above
returns-then-slot-request-clause-above c not_before = above_last c.args.slots.now c.in-Some.slot.now c.requires c.in-Some.ensures.value c.args.request.now.number c.if-slot-request.true

pub returns-then-slot-request-clause-later : goal.returns-then-slot-request-clause-later
returns-then-slot-request-clause-later c not_before =
    let le : c.in-Some.slot.now.request.time ≤ c.args.request.now.time = grind (arith, nat_tests, not_before) in
    after_last c.args.slots.now c.in-Some.slot.now c.requires c.in-Some.ensures.value c.args.request.now.time le
