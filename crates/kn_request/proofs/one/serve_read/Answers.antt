use Rattle.std.proofs.Common.{ℕ, arith, inr, refl, subst}
use Rattle.std.specs.Prelude.{Option}
use Rattle.kn_io.specs.Causes.{Rose}
use Rattle.kn_request.specs.Outside.{Said, said}
use Rattle.kn_request.specs.Terms.{watched}
use Rattle.kn_request.specs.Served.{IsServed}
use Rattle.kn_request.specs.One.{Writes, served_by, text_of}
use Rattle.kn_request.proofs.Watching.{event_more, left_in, said_same}
use Rattle.kn_request.proofs.one.serve_read.Goals as goal

pub returns-clause-serves : goal.returns-clause-serves
returns-clause-serves g c =
    let kept = g.C.Sink.kept in
    let held = g.C.Sink.held in
    let faults = g.C.Faulty.faults in
    let told = g.L.PodLink.told in
    let leaves = g.W.Watch.leaves in
    let old = c.args.caller.now in
    let x = c.serve_event-meant in
    let mid = x.new.caller in
    let new = c.answer.new.caller in
    let same = said_same (kept old) (kept mid) (held old) (held mid) x.ensures.kept x.ensures.held in
    let late = c.answer.ensures.cause.0 in
    let more = left_in leaves (faults old) (faults old) (faults mid) (faults new) (omega arith) late in
    let reading = g.K.Clock.reading c.args.clock.now in
    let served = subst (λ (n : ℕ). IsServed (watched reading leaves (faults old) (faults mid)) n c.args.tag c.args.head.now c.args.pass.now x.new.pass (told c.args.link.now) (told x.new.link) x.result) c.timeout.ensures.value x.ensures.served in
    record {
      meant = served_by x.result;
      text = text_of x.result;
      event = event_more reading (leaves × Rose (faults old) (faults mid)) (leaves × Rose (faults old) (faults new)) more c.args.spec.now.timeout_ms c.args.tag c.args.head.now
          c.args.pass.now x.new.pass (told c.args.link.now) (told x.new.link) (served_by x.result) (text_of x.result) (inr (x.result, served, refl, refl));
      writes = subst (λ (s : Option Said). Writes s (said (kept new) (held new)) c.answer.result (served_by x.result) (text_of x.result)) same c.answer.ensures.writes;
    }
