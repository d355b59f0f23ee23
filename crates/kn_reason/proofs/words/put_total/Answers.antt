-- What was put piece by piece is the text.
use Rattle.kn_reason.specs.Texts.{total_text}
use Rattle.kn_reason.proofs.Pieces.{two_pieces}
use Rattle.kn_reason.proofs.words.put_total.Goals as goal

pub returns-clause-value : goal.returns-clause-value
unfolding total_text
returns-clause-value c = two_pieces _ _ _ _ _ c.put_count.ensures.value c.put_milli.ensures.value
