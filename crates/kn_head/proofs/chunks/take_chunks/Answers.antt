use Rattle.std.proofs.Common.{Ok, ap}
use Rattle.kn_head.proofs.Drawing.{draws_more}
use Rattle.kn_head.proofs.Taking.{goes_on_chunk, goes_on_end, goes_on_fail}
use Rattle.kn_head.proofs.chunks.take_chunks.Goals as goal

pub chunks-preserved : goal.chunks-preserved
chunks-preserved g c =
    let taken = c.in-Ok-true.ensures.chunk (ap Ok c.in-Ok-true.field-0-test) in
    record {
      short = c.in-Ok-true.ensures.short;
      goes_on = goes_on_chunk _ _ _ _ c.chunks.body.items _ taken.0 c.chunks.invariant.goes_on c.chunks.body.ok.0 taken.1 taken.3;
      source = draws_more c.chunks.invariant.source c.take_chunk.ensures.source;
    }

pub returns-in-Ok-false-clause-body : goal.returns-in-Ok-false-clause-body
returns-in-Ok-false-clause-body g c =
    let ended = c.in-Ok-false.ensures.last (ap Ok c.in-Ok-false.field-0-test) in
    goes_on_end _ _ _ c.chunks.body.items _ c.chunks.invariant.goes_on ended.0 ended.1

pub returns-in-Ok-false-clause-source : goal.returns-in-Ok-false-clause-source
returns-in-Ok-false-clause-source g c = draws_more c.chunks.invariant.source c.take_chunk.ensures.source

pub returns-in-Err-clause-source : goal.returns-in-Err-clause-source
returns-in-Err-clause-source g c = draws_more c.chunks.invariant.source c.take_chunk.ensures.source

pub returns-in-Err-clause-fails : goal.returns-in-Err-clause-fails
returns-in-Err-clause-fails g c =
    goes_on_fail _ _ _ c.chunks.body.items c.in-Err.e c.chunks.invariant.goes_on c.chunks.body.ok.0 c.in-Err.ensures.fails
