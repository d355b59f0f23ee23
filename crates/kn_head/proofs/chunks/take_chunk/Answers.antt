use Rattle.std.proofs.Common.{◌<◌, ◌≤◌, ◌+◌, length, vec_len, refl, arith}
use Rattle.std.proofs.lemmas.Result.{err_from_is_err_and}
use Rattle.kn_head.specs.Rules.{body_limit}
use Rattle.kn_head.proofs.Drawing.{draws_more}
use Rattle.kn_head.proofs.Taking.{chunk_taken, chunks_ended, fails_at_size, fails_at_trailer, fails_too_long, fails_at_piece, fails_at_end}
use Rattle.kn_head.proofs.chunks.take_chunk.Goals as goal

pub returns-in_err-size-clause-fails : goal.returns-in_err-size-clause-fails
returns-in_err-size-clause-fails g c =
    let p = err_from_is_err_and c.from_residual.result c.from_residual.ensures.1 in
    rw (p.1, p.2) (fails_at_size _ _ c.in_err-size.field-0.0 c.in_err-size.ensures.fails)

pub returns-in-Ok-clause-source : goal.returns-in-Ok-clause-source
returns-in-Ok-clause-source g c = draws_more c.take_size.ensures.source c.take_trailer.ensures.source

pub returns-in-Ok-clause-last : goal.returns-in-Ok-clause-last
returns-in-Ok-clause-last g c =
    λ e. (refl, chunks_ended _ _ _ c.in_ok-size.size c.in_ok-size.ensures.line c.if-size-eq0.true c.in-Ok.ensures.trailer)

pub returns-in-Err-clause-source : goal.returns-in-Err-clause-source
returns-in-Err-clause-source g c = draws_more c.take_size.ensures.source c.take_trailer.ensures.source

pub returns-in-Err-clause-fails : goal.returns-in-Err-clause-fails
returns-in-Err-clause-fails g c =
    fails_at_trailer _ _ _ c.in_ok-size.size c.in-Err.e c.in_ok-size.ensures.line c.if-size-eq0.true c.in-Err.ensures.fails

pub returns-then-size-room-clause-fails : goal.returns-then-size-room-clause-fails
returns-then-size-room-clause-fails g c =
    let over : body_limit < vec_len c.args.body.now + c.in_ok-size.size = omega arith in
    fails_too_long _ _ _ c.in_ok-size.size c.in_ok-size.ensures.line over

pub returns-in-Err-take_bytes-clause-source : goal.returns-in-Err-take_bytes-clause-source
returns-in-Err-take_bytes-clause-source g c = draws_more c.take_size.ensures.source c.take_bytes.ensures.source

pub returns-in-Err-take_bytes-clause-fails : goal.returns-in-Err-take_bytes-clause-fails
returns-in-Err-take_bytes-clause-fails g c =
    let some : 0 < c.in_ok-size.size = omega arith in
    let short : vec_len c.args.body.now + c.in_ok-size.size ≤ body_limit = omega arith in
    fails_at_piece _ _ _ c.in_ok-size.size c.in-Err-take_bytes.e c.in_ok-size.ensures.line some short c.in-Err-take_bytes.ensures.fails

pub returns-in-Err-take_line_end-clause-source : goal.returns-in-Err-take_line_end-clause-source
returns-in-Err-take_line_end-clause-source g c =
    draws_more (draws_more c.take_size.ensures.source c.take_bytes.ensures.source) c.take_line_end.ensures.source

pub returns-in-Err-take_line_end-clause-fails : goal.returns-in-Err-take_line_end-clause-fails
returns-in-Err-take_line_end-clause-fails g c =
    let some : 0 < c.in_ok-size.size = omega arith in
    let short : vec_len c.args.body.now + c.in_ok-size.size ≤ body_limit = omega arith in
    let came = c.in-Ok-take_bytes.ensures.piece in
    fails_at_end _ _ _ _ c.in_ok-size.size came.0 c.in-Err-take_line_end.e c.in_ok-size.ensures.line came.3 came.2 some short
    c.in-Err-take_line_end.ensures.fails

pub returns-in-Ok-take_line_end-clause-source : goal.returns-in-Ok-take_line_end-clause-source
returns-in-Ok-take_line_end-clause-source g c =
    draws_more (draws_more c.take_size.ensures.source c.take_bytes.ensures.source) c.take_line_end.ensures.source

pub returns-in-Ok-take_line_end-clause-chunk : goal.returns-in-Ok-take_line_end-clause-chunk
returns-in-Ok-take_line_end-clause-chunk g c =
    let some : 0 < c.in_ok-size.size = omega arith in
    let short : vec_len c.args.body.now + c.in_ok-size.size ≤ body_limit = omega arith in
    let came = c.in-Ok-take_bytes.ensures.piece in
    let long : 0 < length came.0 = omega (arith, came.2, some) in
    λ e. (
      came.0,
      came.1,
      long,
      chunk_taken _ _ _ _ _ c.in_ok-size.size came.0 c.in_ok-size.ensures.line came.3 c.in-Ok-take_line_end.ensures.end came.2 some short,
    )
