use Rattle.std.proofs.Common.{arith}
use Rattle.std.proofs.lemmas.Grind.{common_steps}
use Rattle.kn_http.proofs.Fronts.{trailer_at, trailer_never}
use Rattle.kn_http.proofs.parts.trailer.Goals as goal

pub returns-in-Ok-Complete : goal.returns-in-Ok-Complete
returns-in-Ok-Complete c =
    let found = rw c.in-Ok-Complete.field-0-is at c.in-Ok-Complete.ensures.complete in
    let within = rw c.in-Ok-Complete.field-0-is at c.in-Ok-Complete.ensures.within in
    let room = c.parse_headers.auto.headers in
    trailer_at c.args.bounds c.args.bytes.now c.first.result.now c.parse_headers.new.headers _ _ found.0 found.1 c.first.ensures found.2
    within.count_fits (grind (arith, common_steps, room))

pub returns-in-Err : goal.returns-in-Err
returns-in-Err c more =
    let room = c.parse_headers.auto.headers in
    trailer_never c.args.bounds c.args.bytes.now c.first.result.now more c.first.ensures (grind (arith, common_steps, room, c.in-Err.ensures))
