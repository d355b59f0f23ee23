use Rattle.std.proofs.Common.{arith, inr}
use Rattle.kn_io.specs.Causes.{Rose}
use Rattle.kn_request.specs.Outside.{said}
use Rattle.kn_request.specs.Terms.{watched}
use Rattle.kn_request.specs.One.{IsWay}
use Rattle.kn_request.proofs.Talking.{met_of}
use Rattle.kn_request.proofs.Watching.{guest_more, left_in}
use Rattle.kn_request.proofs.one.serve_guest.Goals as goal

pub returns-in-Ok-clause-serves : goal.returns-in-Ok-clause-serves
returns-in-Ok-clause-serves g c =
    let kept = g.C.Sink.kept in
    let held = g.C.Sink.held in
    let left = g.C.Source.left in
    let wire = g.L.PodLink.told in
    let old = c.args.slot.now.caller in
    let mid = c.meet.new.self in
    let new = c.serve_met.new.caller in
    let faults = g.C.Faulty.faults in
    let leaves = g.W.Watch.leaves in
    let reading = g.K.Clock.reading c.args.clock.now in
    let p = c.args.pass.now in
    let q = c.serve_met.new.pass in
    let w = wire c.args.slot.now.link in
    let w' = wire c.serve_met.new.link in
    let met = met_of c.caller_laws.ensures.texts c.caller_laws.ensures.streams (IsWay (watched reading leaves (faults mid) (faults new)) c.args.spec.now c.args.tag p q w w') (kept old) (kept mid) (held old) (held mid)
    (left old) (left mid) (said (kept new) (held new)) c.serve_met.result (g.met.C.Caller.paired old) (g.met.C.Caller.heard old) c.in-Ok.ensures.met c.serve_met.ensures.serves in
    let more = left_in leaves (faults old) (faults mid) (faults new) (faults new) c.meet.ensures.cause.never_falls (omega arith) in
    guest_more reading (leaves × Rose (faults mid) (faults new)) (leaves × Rose (faults old) (faults new)) more c.args.spec.now c.args.tag p q w w' (said (kept old) (held old)) (said (kept new) (held new)) c.serve_met.result (inr met)
