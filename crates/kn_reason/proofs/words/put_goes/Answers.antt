-- What was put piece by piece is the text.
use Rattle.kn_reason.specs.Texts.{goes_text}
use Rattle.kn_reason.proofs.Pieces.{three_pieces}
use Rattle.kn_reason.proofs.words.put_goes.Goals as goal

pub returns-clause-value : goal.returns-clause-value
unfolding goes_text
returns-clause-value c = three_pieces _ _ _ _ _ _ _ c.put_count.ensures.value c.put_count-2.ensures.value c.put.ensures
