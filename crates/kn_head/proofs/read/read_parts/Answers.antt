use Rattle.std.proofs.lemmas.Result.{err_from_is_err_and}
use Rattle.kn_head.specs.Reading.{HasHead}
use Rattle.kn_head.proofs.ChunkFronts.{kept_taken}
use Rattle.kn_head.proofs.Whole.{without_head, without_memory, head_at}
use Rattle.kn_head.proofs.read.read_parts.Goals as goal

pub returns-in_err-found-clause-fails : goal.returns-in_err-found-clause-fails
returns-in_err-found-clause-fails g c =
    let p = err_from_is_err_and c.from_residual.result c.from_residual.ensures.1 in
    rw (p.1, p.2) (without_head _ c.in_err-found.field-0.0 c.in_err-found.ensures.fails)

pub returns-in-Ok-clause-parts : goal.returns-in-Ok-clause-parts
returns-in-Ok-clause-parts g c =
    let parts = c.in-Ok.parts in
    let copied = c.in-Ok.ensures in
    let head = c.in_ok-found.ensures.whole in
    rw c.advance.ensures (kept_taken _ _ c.find_head.new.window c.in_ok-found.found.len (HasHead parts.method parts.target parts.minor parts.headers)
    c.in_ok-found.ensures.stays
    (λ more. head_at c.find_head.new.window c.bytes.result.now more c.find_head.new.spans c.in_ok-found.found head.0 parts.method parts.target parts.minor
    parts.headers head.1 head.2 c.in_ok-found.ensures.short c.bytes.ensures.value copied.method copied.target copied.minor copied.headers))

pub returns-in-Err-clause-fails : goal.returns-in-Err-clause-fails
returns-in-Err-clause-fails g c = without_memory _
