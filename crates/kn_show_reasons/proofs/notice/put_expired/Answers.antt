-- What was put piece by piece is the text.
use Rattle.kn_show_reasons.specs.Notices.{expired_text}
use Rattle.kn_show_reasons.proofs.Pieces.{four_pieces}
use Rattle.kn_show_reasons.proofs.notice.put_expired.Goals as goal

pub returns-clause-value : goal.returns-clause-value
unfolding expired_text
returns-clause-value c = four_pieces _ _ _ _ _ _ _ _ _ c.put_request.ensures.value c.put_count.ensures.value c.put_count-2.ensures.value c.put_ready.ensures.value
