-- What was put piece by piece is the text.
use Rattle.kn_show_reasons.specs.Notices.{sample_text}
use Rattle.kn_show_reasons.proofs.Pieces.{two_pieces}
use Rattle.kn_show_reasons.proofs.notice.put_sample.Goals as goal

pub returns-clause-value : goal.returns-clause-value
unfolding sample_text
returns-clause-value c = two_pieces _ _ _ _ _ c.put_count.ensures.value c.put.ensures
