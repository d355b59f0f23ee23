-- What was put piece by piece is the text.
use Rattle.kn_show_reasons.specs.Notices.{cancelled_text}
use Rattle.kn_show_reasons.proofs.Pieces.{three_pieces}
use Rattle.kn_show_reasons.proofs.notice.put_cancelled.Goals as goal

pub returns-clause-value : goal.returns-clause-value
unfolding cancelled_text
returns-clause-value c = three_pieces _ _ _ _ _ _ _ c.put_request.ensures.value c.put_count.ensures.value c.put.ensures
