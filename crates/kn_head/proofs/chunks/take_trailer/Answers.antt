use Rattle.std.proofs.Common.{sym, subst, ◌∙◌}
use Rattle.kn_head.specs.Told.{unread, Stops}
use Rattle.kn_head.specs.Chunks.{IsTrailer, TrailerFails}
use Rattle.kn_head.specs.declared.head.HeadError.TheVariants as error
use Rattle.kn_head.proofs.Pieces.{of_unread}
use Rattle.kn_head.proofs.Drawing.{draws_more, kept_holds, keeps_more}
use Rattle.kn_head.proofs.ChunkFronts.{kept_taken}
use Rattle.kn_head.proofs.chunks.take_trailer.Goals as goal

pub returns-in-Whole-clause-trailer : goal.returns-in-Whole-clause-trailer
returns-in-Whole-clause-trailer g c =
    rw c.advance.ensures (kept_taken _ _ c.pieces.window c.in-Whole.end IsTrailer c.pieces.invariant.stays
    (rw c.bytes.ensures.value at c.in-Whole.ensures).1)

pub returns-in-Never-clause-fails : goal.returns-in-Never-clause-fails
returns-in-Never-clause-fails g c =
    kept_holds _ _ (λ bytes. TrailerFails bytes error.BadChunk) c.pieces.invariant.stays
    (of_unread _ _ (λ bytes. TrailerFails bytes error.BadChunk) (rw c.bytes.ensures.value at c.in-Never.ensures))

pub returns-in-Err-clause-fails : goal.returns-in-Err-clause-fails
returns-in-Err-clause-fails g c =
    let known = unread c.pieces.window (g.S.Source.left c.pieces.source) in
    let same = c.bytes-in-Err.ensures.value ∙ c.in-Err.ensures.kept in
    kept_holds _ _ (λ bytes. TrailerFails bytes c.cut_trailer.result) c.pieces.invariant.stays
    (c.cut_trailer.ensures.why known (subst (λ w. Stops w known c.in-Err.e) (sym same) c.in-Err.ensures.stops))

pub pieces-preserved : goal.pieces-preserved
pieces-preserved g c = record {
  stays = keeps_more _ _ _ c.pieces.invariant.stays c.in-Ok.ensures.stays;
  source = draws_more c.pieces.invariant.source c.in-Ok.ensures.source;
}

pub returns-in-Err-clause-source : goal.returns-in-Err-clause-source
returns-in-Err-clause-source g c = draws_more c.pieces.invariant.source c.fill.ensures.source
