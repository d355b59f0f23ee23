use Rattle.std.proofs.Common.{append_assoc}
use Rattle.kn_replay.specs.Texts.{setup_text}
use Rattle.kn_replay.proofs.texts.put_setup.Goals as goal

pub returns-in-Config-clause-value : goal.returns-in-Config-clause-value
unfolding setup_text
returns-in-Config-clause-value c = rw (c.in-Config.is, c.put_config.ensures.value, c.put.ensures) (simp append_assoc)

pub returns-in-Revision-clause-value : goal.returns-in-Revision-clause-value
unfolding setup_text
returns-in-Revision-clause-value c = rw (c.in-Revision.is, c.put_spec.ensures.value, c.put-in-Revision.ensures) (simp append_assoc)

pub returns-in-BadWord-clause-value : goal.returns-in-BadWord-clause-value
unfolding setup_text
returns-in-BadWord-clause-value c = rw c.in-BadWord.is c.put-in-BadWord.ensures
