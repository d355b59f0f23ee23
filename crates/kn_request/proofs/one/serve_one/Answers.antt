use Rattle.kn_io.specs.Causes.{Rose}
use Rattle.kn_request.specs.Outside.{said}
use Rattle.kn_request.proofs.Watching.{guest_more}
use Rattle.kn_request.proofs.one.serve_one.Goals as goal

pub returns-clause-serves : goal.returns-clause-serves
returns-clause-serves g c =
    let kept = g.C.Sink.kept in
    let held = g.C.Sink.held in
    let faults = g.C.Faulty.faults in
    let wire = g.L.PodLink.told in
    let old = c.args.slot.now in
    let new = c.serve_guest.new.slot in
    guest_more (g.K.Clock.reading c.args.clock.now) (⊥ × Rose (faults old.caller) (faults new.caller)) ⊥ (λ l. absurd l.0) c.args.spec.now c.args.tag c.args.pass.now c.serve_guest.new.pass (wire old.link) (wire new.link)
    (said (kept old.caller) (held old.caller)) (said (kept new.caller) (held new.caller)) c.serve_guest.result c.serve_guest.ensures.serves
