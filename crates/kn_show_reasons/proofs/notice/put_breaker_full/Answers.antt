-- What was put piece by piece is the text.
use Rattle.kn_show_reasons.specs.Notices.{breaker_text}
use Rattle.kn_show_reasons.proofs.Pieces.{three_pieces}
use Rattle.kn_show_reasons.proofs.notice.put_breaker_full.Goals as goal

pub returns-clause-value : goal.returns-clause-value
unfolding breaker_text
returns-clause-value c = three_pieces _ _ _ _ _ _ _ c.put_request.ensures.value c.put_count.ensures.value c.put_slots.ensures.value
