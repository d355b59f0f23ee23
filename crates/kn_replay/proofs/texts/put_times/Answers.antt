use Rattle.std.proofs.Common.{append_assoc}
use Rattle.kn_replay.proofs.texts.put_times.Goals as goal

pub returns-clause-value : goal.returns-clause-value
returns-clause-value c = rw (c.put_integer-2.ensures.value, c.put-2.ensures, c.put_integer.ensures.value, c.put.ensures) (simp append_assoc)
