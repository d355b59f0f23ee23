use Rattle.std.proofs.Common.{[], arith, inl, inr, refl, subst, sym, ◌∙◌}
use Rattle.std.specs.Prelude.{Ok, Err, Option}
use Rattle.kn_io.specs.Causes.{Rose}
use Rattle.kn_head.specs.declared.answer.Answer.{Answer}
use Rattle.kn_request.specs.Outside.{Said, said}
use Rattle.kn_head.specs.declared.answer.Answer.TheVariants as answer
use Rattle.kn_head.specs.Answers.{answered}
use Rattle.kn_request.specs.declared.slot.Served.TheVariants as served
use Rattle.kn_request.specs.One.{IsUnread, Refuses, Writes}
use Rattle.kn_request.proofs.Talking.{said_stays, silent}
use Rattle.kn_request.proofs.Watching.{event_more, left_in}
use Rattle.kn_request.proofs.one.serve_met.Goals as goal

pub returns-in-true-clause-serves : goal.returns-in-true-clause-serves
returns-in-true-clause-serves g c =
    let kept = g.C.Sink.kept in
    let held = g.C.Sink.held in
    let old = c.args.caller.now in
    let mid = c.read_head.new.source in
    let new = c.serve_read.new.caller in
    let x = c.serve_read.ensures.serves in
    let faults = g.C.Faulty.faults in
    let told = g.L.PodLink.told in
    let leaves = g.W.Watch.leaves in
    let more = left_in leaves (faults old) (faults mid) (faults new) (faults new) c.read_head.ensures.never_falls (omega arith) in
    let same = said_stays (kept old) (kept mid) (held old) (held mid) (sym (g.met.C.Caller.together mid) ∙ (c.read_head.ensures.apart_stays ∙ g.met.C.Caller.together old)) in
    record {
      found = Ok c.in-Ok.head;
      reads = c.in-Ok.ensures.reads;
      meant = x.meant;
      text = x.text;
      way = inl (
        c.in-true.ensures,
        event_more (g.K.Clock.reading c.args.clock.now) (leaves × Rose (faults mid) (faults new)) (leaves × Rose (faults old) (faults new)) more c.args.spec.now.timeout_ms c.args.tag c.in-Ok.head c.args.pass.now c.serve_read.new.pass
            (told c.args.link.now) (told c.serve_read.new.link) x.meant x.text x.event,
      );
      writes = subst (λ (s : Option Said). Writes s (said (kept new) (held new)) c.serve_read.result x.meant x.text) same x.writes;
    }

pub returns-in-Ok-clause-serves : goal.returns-in-Ok-clause-serves
returns-in-Ok-clause-serves g c =
    let kept = g.C.Sink.kept in
    let held = g.C.Sink.held in
    let old = c.args.caller.now in
    let mid = c.read_head.new.source in
    let new = c.refuse.new.caller in
    let x = c.refuse.ensures.refuses in
    let same = said_stays (kept old) (kept mid) (held old) (held mid) (sym (g.met.C.Caller.together mid) ∙ (c.read_head.ensures.apart_stays ∙ g.met.C.Caller.together old)) in
    record {
      found = Ok c.in-Ok.head;
      reads = c.in-Ok.ensures.reads;
      meant = served.Refused answer.NoSuchRevision;
      text = answered answer.NoSuchRevision;
      way = inr (c.in-false.ensures, record { pass = refl; unused = refl }, (refl, refl));
      writes = subst (λ (s : Option Said). Refuses s (said (kept new) (held new)) answer.NoSuchRevision c.refuse.result) same x;
    }

pub returns-in-Some-clause-serves : goal.returns-in-Some-clause-serves
returns-in-Some-clause-serves g c =
    let kept = g.C.Sink.kept in
    let held = g.C.Sink.held in
    let old = c.args.caller.now in
    let mid = c.read_head.new.source in
    let new = c.refuse-in-Some.new.caller in
    let x = c.refuse-in-Some.ensures.refuses in
    let a = c.in-Some.answer in
    let same = said_stays (kept old) (kept mid) (held old) (held mid) (sym (g.met.C.Caller.together mid) ∙ (c.read_head.ensures.apart_stays ∙ g.met.C.Caller.together old)) in
    record {
      found = Err c.in-Err.error;
      reads = c.in-Err.ensures.reads;
      meant = served.Refused a;
      text = answered a;
      way = (record { pass = refl; unused = refl }, subst (λ (o : Option Answer). IsUnread c.in-Err.error o (served.Refused a) (answered a)) (sym c.in-Some.is ∙ c.answer.ensures) (refl, refl));
      writes = subst (λ (s : Option Said). Refuses s (said (kept new) (held new)) a c.refuse-in-Some.result) same x;
    }

pub returns-clause-serves : goal.returns-clause-serves
returns-clause-serves g c =
    let kept = g.C.Sink.kept in
    let held = g.C.Sink.held in
    let old = c.args.caller.now in
    let mid = c.read_head.new.source in
    let x = c.fault_of.ensures.unread in
    let same = said_stays (kept old) (kept mid) (held old) (held mid) (sym (g.met.C.Caller.together mid) ∙ (c.read_head.ensures.apart_stays ∙ g.met.C.Caller.together old)) in
    record {
      found = Err c.in-Err.error;
      reads = c.in-Err.ensures.reads;
      meant = c.fault_of.result;
      text = [];
      way = (record { pass = refl; unused = refl }, subst (λ (a : Option Answer). IsUnread c.in-Err.error a c.fault_of.result []) (sym c.in-None.is ∙ c.answer.ensures) x);
      writes = subst (λ (s : Option Said). Writes s (said (kept mid) (held mid)) c.fault_of.result c.fault_of.result []) same (silent (said (kept mid) (held mid)) c.fault_of.result);
    }
