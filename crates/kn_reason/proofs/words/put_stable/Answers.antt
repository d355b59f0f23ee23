-- What was put piece by piece is the text.
use Rattle.kn_reason.specs.Texts.{stable_text}
use Rattle.kn_reason.proofs.Pieces.{four_pieces}
use Rattle.kn_reason.proofs.words.put_stable.Goals as goal

pub returns-clause-value : goal.returns-clause-value
unfolding stable_text
returns-clause-value c = four_pieces _ _ _ _ _ _ _ _ _ c.put_count.ensures.value c.put_frac.ensures.value c.put_milli.ensures.value c.put_pods.ensures.value
