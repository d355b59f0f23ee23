use Rattle.std.proofs.Common.{◌≡◌, ◌-◌, ◌%◌, ◌<◌, ◌≤◌, rules, slice_index_or}
use Rattle.std.specs.List.{count_by}
use Rattle.kn_trace.specs.Choice.{has_seat, other_position}
use Rattle.kn_policy.proofs.Counting.{first_of_free, marks-small, second_of_free, two_of_few}
use Rattle.kn_policy.proofs.Marking.{nobody}
use Rattle.kn_policy.proofs.marks.place_of_two.Goals as goal

pub returns-then-free-lt2 : goal.returns-then-free-lt2
returns-then-free-lt2 c =
    let few : count_by has_seat c.args.ready.now ≤ 1 = search rules in
    rw (two_of_few c.args.ready.now c.args.words.0 c.args.words.1 few) c.first_place.ensures

pub place_among_free-requires-clause-marks : goal.place_among_free-requires-clause-marks
place_among_free-requires-clause-marks c = rw c.requires.marks (marks-small c.args.ready.now)

pub place_among_free-requires-2-clause-marks : goal.place_among_free-requires-2-clause-marks
place_among_free-requires-2-clause-marks c = rw c.requires.marks (marks-small c.args.ready.now)

pub returns-then-ready-second : goal.returns-then-ready-second
returns-then-ready-second c =
    let free = c.requires.free in
    let many : 2 ≤ count_by has_seat c.args.ready.now = search (rules, free) in
    let i : c.from.result % c.args.free ≡ c.args.words.0 % count_by has_seat c.args.ready.now = search (rules, free) in
    let j : c.other_position-j.result ≡ other_position (c.from.result % c.args.free) (c.args.words.1 % (count_by has_seat c.args.ready.now - 1)) = search (rules, free) in
    let first : c.from.result % c.args.free < count_by has_seat c.args.ready.now = search (rules, free) in
    let second : c.other_position-j.result < count_by has_seat c.args.ready.now = search (rules, free) in
    let less : (slice_index_or c.args.ready.now c.in_ok-second.second nobody).running < (slice_index_or c.args.ready.now c.in_ok-first.first nobody).running = search rules in
    second_of_free c.args.ready.now _ _ _ _ _ _ nobody many i j first second (rw c.requires.marks at c.in_ok-first.ensures) (rw c.requires.marks at c.in_ok-second.ensures) less

pub returns-else-ready-second : goal.returns-else-ready-second
returns-else-ready-second c =
    let free = c.requires.free in
    let many : 2 ≤ count_by has_seat c.args.ready.now = search (rules, free) in
    let i : c.from.result % c.args.free ≡ c.args.words.0 % count_by has_seat c.args.ready.now = search (rules, free) in
    let j : c.other_position-j.result ≡ other_position (c.from.result % c.args.free) (c.args.words.1 % (count_by has_seat c.args.ready.now - 1)) = search (rules, free) in
    let first : c.from.result % c.args.free < count_by has_seat c.args.ready.now = search (rules, free) in
    let second : c.other_position-j.result < count_by has_seat c.args.ready.now = search (rules, free) in
    let less : (slice_index_or c.args.ready.now c.in_ok-first.first nobody).running ≤ (slice_index_or c.args.ready.now c.in_ok-second.second nobody).running = search rules in
    first_of_free c.args.ready.now _ _ _ _ _ _ nobody many i j first second (rw c.requires.marks at c.in_ok-first.ensures) (rw c.requires.marks at c.in_ok-second.ensures) less
