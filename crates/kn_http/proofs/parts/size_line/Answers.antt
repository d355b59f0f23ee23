use Rattle.kn_http.proofs.Fronts.{size_at, size_never}
use Rattle.kn_http.proofs.parts.size_line.Goals as goal

pub returns-in-Ok-Complete : goal.returns-in-Ok-Complete
returns-in-Ok-Complete c =
    let found = rw c.in-Ok-Complete.field-0-is at c.in-Ok-Complete.ensures.complete in
    size_at c.args.bounds c.args.bytes.now c.first.result.now _ _ found.0 c.first.ensures found.1

pub returns-in-Err : goal.returns-in-Err
returns-in-Err c more = size_never c.args.bounds c.args.bytes.now c.first.result.now more c.first.ensures c.in-Err.ensures.invalid
