-- What was put piece by piece is the text.
use Rattle.kn_reason.specs.Texts.{not_yet_text}
use Rattle.kn_reason.proofs.Pieces.{four_pieces}
use Rattle.kn_reason.proofs.words.put_not_yet.Goals as goal

pub returns-clause-value : goal.returns-clause-value
unfolding not_yet_text
returns-clause-value c = four_pieces _ _ _ _ _ _ _ _ _ c.put_count.ensures.value c.put_count-2.ensures.value c.put_count-3.ensures.value c.put.ensures
