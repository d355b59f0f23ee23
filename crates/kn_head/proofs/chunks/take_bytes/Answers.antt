use Rattle.std.proofs.Common.{◌≤◌, ◌++◌, length, take, ap, ◌∙◌, arith}
use Rattle.kn_head.proofs.Drawing.{draws_more}
use Rattle.kn_head.proofs.Taking.{takes_more, bytes_stopped}
use Rattle.kn_head.proofs.chunks.take_bytes.Goals as goal

pub returns-in-Err-clause-source : goal.returns-in-Err-clause-source
returns-in-Err-clause-source g c = draws_more c.pieces.invariant.source c.wait.ensures.source

pub returns-in-Err-clause-fails : goal.returns-in-Err-clause-fails
returns-in-Err-clause-fails g c = bytes_stopped _ _ c.in-Err.e c.pieces.invariant.taken (omega arith) c.in-Err.ensures.stops

pub returns-in-Err-extend_from_slice-clause-source : goal.returns-in-Err-extend_from_slice-clause-source
returns-in-Err-extend_from_slice-clause-source g c = draws_more c.pieces.invariant.source c.wait.ensures.source

pub pieces-preserved : goal.pieces-preserved
pieces-preserved g c =
    let few : c.min-count.result ≤ c.pieces.left = omega arith in
    let within : c.min-count.result ≤ length c.wait.new.self = omega (arith, c.bytes-bytes.ensures.len) in
    let grown = c.in-Ok-extend_from_slice.ensures.items ∙ ap (λ l. c.pieces.body.items ++ take c.min-count.result l) c.bytes-bytes.ensures.value in
    record {
      taken = rw c.advance.ensures (takes_more _ _ _ _ _ _ c.min-count.result c.wait.new.self _ _ c.pieces.invariant.taken few within c.in-Ok.ensures.stays grown);
      source = draws_more c.pieces.invariant.source c.wait.ensures.source;
    }
