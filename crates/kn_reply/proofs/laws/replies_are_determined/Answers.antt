use Rattle.kn_reply.proofs.Replied.{whole_reply}
use Rattle.kn_reply.proofs.OneReply.{one_reply}
use Rattle.kn_reply.proofs.laws.replies_are_determined.Goals as goal

pub returns-clause-one : goal.returns-clause-one
returns-clause-one c request sent a b x y = one_reply c.chunks_are_determined.ensures request sent a b x y

pub returns-clause-whole : goal.returns-clause-whole
returns-clause-whole c request reply r = whole_reply request reply r
