use Rattle.std.proofs.Common.{◌∙◌, ◌<◌, ◌≤◌, length, Some, rules, sym}
use Rattle.kn_policy.proofs.Marking.{first_placed, rest_all, round_alone, rest_marks, round_here, round_past, round_wrapped}
use Rattle.kn_policy.proofs.marks.round_place.Goals as goal

pub returns-then-place-ready : goal.returns-then-place-ready
returns-then-place-ready c =
    let past : length c.args.ready.now ≤ c.args.place = search rules in
    round_past c.args.place c.args.ready.now (Some c.args.first) past (first_placed c.args.ready.now _ c.requires.first (rw c.requires.free at c.requires.some))

pub returns-then-free-eq1 : goal.returns-then-free-eq1
returns-then-free-eq1 c =
    let within : c.args.place < length c.args.ready.now = search rules in
    rw (round_alone c.args.place c.args.ready.now within (sym c.requires.free ∙ c.if-free-eq1.true)) (first_placed c.args.ready.now _ c.requires.first (rw c.requires.free at c.requires.some))

pub first_place-requires : goal.first_place-requires
first_place-requires c = rw c.requires.marks (rest_marks c.args.place c.args.ready.now)

pub returns-in-Some : goal.returns-in-Some
returns-in-Some c =
    let within : c.args.place < length c.args.ready.now = search rules in
    round_here c.args.place c.args.ready.now c.in-Some.i within (rw (rest_all c.args.place c.args.ready.now) at c.in-Some.ensures)

pub returns-in-None : goal.returns-in-None
returns-in-None c =
    let within : c.args.place < length c.args.ready.now = search rules in
    rw (round_wrapped c.args.place c.args.ready.now within (rw (rest_all c.args.place c.args.ready.now) at c.in-None.ensures)) (first_placed c.args.ready.now _ c.requires.first (rw c.requires.free at c.requires.some))
