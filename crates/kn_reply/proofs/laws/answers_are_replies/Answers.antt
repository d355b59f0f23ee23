use Rattle.kn_reply.proofs.Closed.{longer, one_answer, reads_again}
use Rattle.kn_reply.proofs.laws.answers_are_replies.Goals as goal

pub returns-clause-one : goal.returns-clause-one
returns-clause-one c reply a b x y = one_answer reply a b x y

pub returns-clause-again : goal.returns-clause-again
returns-clause-again c request reply text reads closes = reads_again request reply text reads closes

pub returns-clause-longer : goal.returns-clause-longer
returns-clause-longer c reply text closes = longer reply text closes
