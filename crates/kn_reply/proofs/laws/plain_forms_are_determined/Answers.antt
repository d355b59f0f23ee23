use Rattle.kn_reply.proofs.PlainHeads.{one_plain}
use Rattle.kn_reply.proofs.laws.plain_forms_are_determined.Goals as goal

pub returns : goal.returns
returns c answer a b x y = one_plain c.chunks_are_determined.ensures answer a b x y
