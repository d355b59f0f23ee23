use Rattle.kn_http.specs.Parts.{SizeCut, SizeRefused}
use Rattle.kn_head.specs.Chunks.{request_bounds, IsSizeLine, SizeFails}
use Rattle.kn_head.specs.declared.head.HeadError.TheVariants as error
use Rattle.kn_head.proofs.Pieces.{of_unread}
use Rattle.kn_head.proofs.Drawing.{draws_more, kept_holds, keeps_more}
use Rattle.kn_head.proofs.ChunkFronts.{kept_taken, part_stopped}
use Rattle.kn_head.proofs.chunks.take_size.Goals as goal

pub returns-in-Whole-clause-line : goal.returns-in-Whole-clause-line
returns-in-Whole-clause-line g c =
    rw c.advance.ensures (kept_taken _ _ c.pieces.window c.in-Whole.end (λ bytes rest. IsSizeLine bytes c.in-Whole.size rest)
    c.pieces.invariant.stays (rw c.bytes.ensures.value at c.in-Whole.ensures).1)

pub returns-in-Never-clause-fails : goal.returns-in-Never-clause-fails
returns-in-Never-clause-fails g c =
    kept_holds _ _ (λ bytes. SizeFails bytes error.BadChunk) c.pieces.invariant.stays
    (of_unread _ _ (λ bytes. SizeFails bytes error.BadChunk) (rw c.bytes.ensures.value at c.in-Never.ensures))

pub returns-in-Err-clause-fails : goal.returns-in-Err-clause-fails
returns-in-Err-clause-fails g c =
    kept_holds _ _ (λ bytes. SizeFails bytes c.in-Err.e) c.pieces.invariant.stays
    (part_stopped (SizeRefused request_bounds) (SizeCut request_bounds) c.in-Err.e _ c.pieces.window
    (λ _. rw c.bytes.ensures.value at c.in-Cut.ensures) c.in-Err.ensures.stops)

pub pieces-preserved : goal.pieces-preserved
pieces-preserved g c = record {
  stays = keeps_more _ _ _ c.pieces.invariant.stays c.in-Ok.ensures.stays;
  source = draws_more c.pieces.invariant.source c.in-Ok.ensures.source;
}

pub returns-in-Err-clause-source : goal.returns-in-Err-clause-source
returns-in-Err-clause-source g c = draws_more c.pieces.invariant.source c.fill.ensures.source
