use Rattle.std.proofs.Common.{◌<◌, arith}
use Rattle.std.proofs.lemmas.Bool.Decides.{nat_tests}
use Rattle.kn_lives.proofs.Search.{above_last}
use Rattle.kn_lives.proofs.slots.has_room.Goals as goal

pub returns-in-Some-clause-above : goal.returns-in-Some-clause-above
returns-in-Some-clause-above c is_below =
    let below : c.in-Some.slot.now.number < c.args.r = grind (arith, nat_tests, is_below) in
    above_last c.args.slots.now c.in-Some.slot.now c.in-Some.ensures.value c.args.r c.requires below
