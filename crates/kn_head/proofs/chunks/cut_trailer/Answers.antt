use Rattle.std.proofs.Common.{subst, arith}
use Rattle.kn_http.specs.Parts.{TrailerCut, TrailerRefused}
use Rattle.httparse.specs.Spans.{SectionExceeds}
use Rattle.kn_head.specs.Told.{Stops}
use Rattle.kn_head.specs.Heads.{room}
use Rattle.kn_head.specs.Chunks.{request_bounds}
use Rattle.kn_head.proofs.LineCounts.{trailer_exceeds, trailer_fits}
use Rattle.kn_head.proofs.ChunkFronts.{part_stopped, trailer_ended_long}
use Rattle.kn_head.proofs.chunks.cut_trailer.Goals as goal

pub returns-in-EndedEarly-clause-why : goal.returns-in-EndedEarly-clause-why
returns-in-EndedEarly-clause-why c known stops =
    trailer_ended_long known c.args.bytes.now c.requires.0 (trailer_exceeds c.args.bytes.now c.requires.1 (omega arith))
    (subst (Stops c.args.bytes.now known) c.in-EndedEarly.is stops)

pub returns-in_default-clause-why : goal.returns-in_default-clause-why
returns-in_default-clause-why c known stops =
    part_stopped (TrailerRefused request_bounds) (λ bytes. TrailerCut request_bounds bytes × ¬ (SectionExceeds room bytes)) c.args.stop known
    c.args.bytes.now (λ ended. (c.requires, trailer_fits c.args.bytes.now (omega arith))) stops
