use Rattle.kn_head.proofs.Drawing.{draws_more, keeps_more}
use Rattle.kn_head.proofs.chunks.take_line_end.Goals as goal

pub pieces-preserved : goal.pieces-preserved
pieces-preserved g c = record {
  stays = keeps_more _ _ _ c.pieces.invariant.stays c.in-Ok.ensures.stays;
  source = draws_more c.pieces.invariant.source c.in-Ok.ensures.source;
}

pub returns-in-Err-clause-source : goal.returns-in-Err-clause-source
returns-in-Err-clause-source g c = draws_more c.pieces.invariant.source c.fill.ensures.source
