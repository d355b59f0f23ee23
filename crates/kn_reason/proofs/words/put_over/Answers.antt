-- What was put piece by piece is the text.
use Rattle.kn_reason.specs.Texts.{over_text}
use Rattle.kn_reason.proofs.Pieces.{four_pieces}
use Rattle.kn_reason.proofs.words.put_over.Goals as goal

pub returns-clause-value : goal.returns-clause-value
unfolding over_text
returns-clause-value c = four_pieces _ _ _ _ _ _ _ _ _ c.put_pods.ensures.value c.put_count.ensures.value c.put_milli.ensures.value c.put.ensures
