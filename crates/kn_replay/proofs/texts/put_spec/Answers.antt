use Rattle.kn_replay.specs.Texts.{spec_text}
use Rattle.kn_replay.proofs.texts.put_spec.Goals as goal

pub returns-in-NotText-clause-value : goal.returns-in-NotText-clause-value
unfolding spec_text
returns-in-NotText-clause-value c = rw c.in-NotText.is c.put_key.ensures.value

pub returns-in-OutOfRange-clause-value : goal.returns-in-OutOfRange-clause-value
unfolding spec_text
returns-in-OutOfRange-clause-value c = rw c.in-OutOfRange.is c.put_key-in-OutOfRange.ensures.value
