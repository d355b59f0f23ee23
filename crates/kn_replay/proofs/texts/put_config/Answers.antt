use Rattle.kn_replay.specs.Texts.{config_text}
use Rattle.kn_replay.proofs.texts.put_config.Goals as goal

pub returns-in-NotText-clause-value : goal.returns-in-NotText-clause-value
unfolding config_text
returns-in-NotText-clause-value c = rw c.in-NotText.is c.put_key.ensures.value

pub returns-in-OutOfRange-clause-value : goal.returns-in-OutOfRange-clause-value
unfolding config_text
returns-in-OutOfRange-clause-value c = rw c.in-OutOfRange.is c.put_key-in-OutOfRange.ensures.value
