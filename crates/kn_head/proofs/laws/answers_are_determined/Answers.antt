use Rattle.kn_head.specs.Chunks.{request_bounds}
use Rattle.kn_head.proofs.Determined.{head_unique, no_head_there, heads_alike, answer_there}
use Rattle.kn_head.proofs.Faults.{faults_same}
use Rattle.kn_head.proofs.laws.answers_are_determined.Goals as goal

pub returns-clause-request : goal.returns-clause-request
returns-clause-request c bytes head answer x y = answer_there c.chunks_are_determined.ensures bytes head answer x y

pub returns-clause-head : goal.returns-clause-head
returns-clause-head c bytes r q h k x y = head_unique bytes r q h k x y

pub returns-clause-no_head : goal.returns-clause-no_head
returns-clause-no_head c bytes rest h e x y = no_head_there bytes rest h e x y

pub returns-clause-faults : goal.returns-clause-faults
returns-clause-faults c bytes e f x y = heads_alike bytes e f x y

pub returns-clause-chunked : goal.returns-clause-chunked
returns-clause-chunked c b v w r q x y = c.chunks_are_determined.ensures.body request_bounds b v w r q x y

pub returns-clause-behind : goal.returns-clause-behind
returns-clause-behind c bytes rest h e f begins x y = faults_same c.chunks_are_determined.ensures bytes rest h e f begins x y
