use Rattle.std.proofs.Common.{◌≡◌, inr}
use Rattle.kn_request.specs.Terms.{unwatched, watched}
use Rattle.kn_request.proofs.Later.{cancels_at, cancels_later, known_after, known_later, left_after, left_over, looks_after, looks_trans}
use Rattle.kn_request.proofs.wait.wait_out.Goals as goal

pub look_once-requires-clause-known : goal.look_once-requires-clause-known
look_once-requires-clause-known g c =
    known_later c.server_laws.ensures.request c.args.r c.wait_while.new.pass c.cancel.new.pass c.cancel.ensures.looks
    (known_after c.server_laws.ensures.request c.args.r c.args.pass.now c.wait_while.new.pass c.wait_while.ensures.looks c.requires.known)

pub returns-in-Runs-clause-left : goal.returns-in-Runs-clause-left
returns-in-Runs-clause-left g c = left_after c.server_laws.ensures.request c.args.r c.args.pass.now c.wait_while.new.pass c.wait_while.ensures.looks c.requires.own c.wait_while.ensures.mine

pub returns-in-Ended-clause-left : goal.returns-in-Ended-clause-left
returns-in-Ended-clause-left g c = left_after c.server_laws.ensures.request c.args.r c.args.pass.now c.wait_while.new.pass c.wait_while.ensures.looks c.requires.own c.wait_while.ensures.mine

pub returns-in-GivenUp-clause-looks : goal.returns-in-GivenUp-clause-looks
returns-in-GivenUp-clause-looks g c =
    inr (looks_trans c.args.pass.now c.cancel.new.pass c.look_once.new.pass (looks_after c.args.pass.now c.wait_while.new.pass c.cancel.new.pass c.wait_while.ensures.looks c.cancel.ensures.looks) c.look_once.ensures.looks)

pub returns-in-GivenUp-clause-cancels : goal.returns-in-GivenUp-clause-cancels
returns-in-GivenUp-clause-cancels g c =
    let terms = watched (g.K.Clock.reading c.args.clock.now) g.W.Watch.leaves (g.C.Faulty.faults c.args.caller.now) (g.C.Faulty.faults c.wait_while.new.caller) in
    let found = c.in-GivenUp.ensures.found in
    let at = cancels_at terms c.args.due c.args.r c.in-GivenUp.now c.wait_while.new.pass c.cancel.new.pass found.0 found.1 c.cancel.ensures.cancels in
    cancels_later terms c.args.due c.args.r c.args.pass.now c.wait_while.new.pass c.cancel.new.pass c.look_once.new.pass c.wait_while.ensures.mine at c.look_once.ensures.looks c.look_once.ensures.mine

pub returns-in-GivenUp-clause-left : goal.returns-in-GivenUp-clause-left
returns-in-GivenUp-clause-left g c =
    let looks = looks_trans c.args.pass.now c.cancel.new.pass c.look_once.new.pass (looks_after c.args.pass.now c.wait_while.new.pass c.cancel.new.pass c.wait_while.ensures.looks c.cancel.ensures.looks) c.look_once.ensures.looks in
    let terms = unwatched (λ t. t ≡ c.in-GivenUp.now) in
    let cancels = cancels_later terms c.in-GivenUp.now c.args.r c.args.pass.now c.wait_while.new.pass c.cancel.new.pass c.look_once.new.pass c.wait_while.ensures.mine c.cancel.ensures.cancels c.look_once.ensures.looks c.look_once.ensures.mine in
    left_over c.server_laws.ensures.request terms c.in-GivenUp.now c.args.r c.args.pass.now c.look_once.new.pass looks c.requires.own cancels
