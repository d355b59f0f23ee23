use Rattle.std.proofs.Common.{◌≡◌, ◌<◌, length, arith, refl, Some, true}
use Rattle.std.specs.Prelude.{slice_index, ◌==◌}
use Rattle.kn_policy.specs.Marks.{marks_of}
use Rattle.kn_policy.proofs.Marking.{first_marked}
use Rattle.kn_policy.proofs.marks.first_place.Goals as goal

pub returns-then-begins_marked : goal.returns-then-begins_marked
returns-then-begins_marked c =
    let first = rw c.requires at (c.begins_marked.ensures c.if-begins_marked.true) in
    let some : 0 < length (marks_of c.args.ready.now) = first.0 in
    let one : (slice_index (marks_of c.args.ready.now) 0 == 1) ≡ true = rw first.1 refl in
    first_marked c.args.ready.now (Some 0) (record { low = omega arith; high = some; before = λ k low high. absurd (omega arith) }, one)

pub returns : goal.returns
returns c = first_marked c.args.ready.now c.memchr.result (rw c.requires at c.memchr.ensures)
