use Rattle.std.proofs.Common.{inr, refl, subst}
use Rattle.std.specs.Prelude.{Ok, Err}
use Rattle.kn_io.specs.declared.links.LinkError.{LinkError}
use Rattle.kn_request.specs.Terms.{watched}
use Rattle.kn_request.specs.Requests.{WasRun}
use Rattle.kn_request.proofs.Later.{looks_after}
use Rattle.kn_request.proofs.Courses.{ran_course, lost_course}
use Rattle.kn_request.proofs.serve.serve_request.Goals as goal

pub returns-in-None-clause-course : goal.returns-in-None-clause-course
returns-in-None-clause-course g c = (
  refl,
  lost_course (watched (g.K.Clock.reading c.args.clock.now) g.W.Watch.leaves (g.C.Faulty.faults c.args.caller.now) (g.C.Faulty.faults c.leave_queue.new.caller)) c.args.due c.args.r c.args.pass.now c.leave_queue.new.pass c.leave_queue.ensures.cancels c.leave_queue.ensures.left c.in-None.ensures.ended,
)

pub returns-in-Ok-clause-looks : goal.returns-in-Ok-clause-looks
returns-in-Ok-clause-looks g c = inr (looks_after c.args.pass.now c.leave_queue.new.pass c.run_at.new.pass c.leave_queue.ensures.looks c.run_at.ensures.looks)

pub returns-in-Ok-clause-course : goal.returns-in-Ok-clause-course
returns-in-Ok-clause-course g c =
    ran_course (watched (g.K.Clock.reading c.args.clock.now) g.W.Watch.leaves (g.C.Faulty.faults c.args.caller.now) (g.C.Faulty.faults c.leave_queue.new.caller)) c.args.due c.args.head.now c.args.r c.args.pass.now c.leave_queue.new.pass c.run_at.new.pass (g.L.PodLink.told c.args.link.now) (g.L.PodLink.told c.run_at.new.link) (Ok c.in-Ok.text)
    c.run_at.ensures.looks c.leave_queue.ensures.cancels (c.in-Ok.ensures.call) c.in-Ok.ensures.finish

pub returns-in-Failed-clause-looks : goal.returns-in-Failed-clause-looks
returns-in-Failed-clause-looks g c = inr (looks_after c.args.pass.now c.leave_queue.new.pass c.run_at.new.pass c.leave_queue.ensures.looks c.run_at.ensures.looks)

pub returns-in-Failed-clause-course : goal.returns-in-Failed-clause-course
returns-in-Failed-clause-course g c =
    subst (λ (e : LinkError). WasRun (watched (g.K.Clock.reading c.args.clock.now) g.W.Watch.leaves (g.C.Faulty.faults c.args.caller.now) (g.C.Faulty.faults c.leave_queue.new.caller)) c.args.due c.args.head.now c.args.r c.args.pass.now c.run_at.new.pass (g.L.PodLink.told c.args.link.now) (g.L.PodLink.told c.run_at.new.link) (Err e)) c.in-Failed.is
    (ran_course (watched (g.K.Clock.reading c.args.clock.now) g.W.Watch.leaves (g.C.Faulty.faults c.args.caller.now) (g.C.Faulty.faults c.leave_queue.new.caller)) c.args.due c.args.head.now c.args.r c.args.pass.now c.leave_queue.new.pass c.run_at.new.pass (g.L.PodLink.told c.args.link.now) (g.L.PodLink.told c.run_at.new.link) (Err c.in-Err.error)
    c.run_at.ensures.looks c.leave_queue.ensures.cancels (c.in-Err.ensures.call) c.in-Err.ensures.finish)

pub returns-in-Memory-clause-looks : goal.returns-in-Memory-clause-looks
returns-in-Memory-clause-looks g c = inr (looks_after c.args.pass.now c.leave_queue.new.pass c.run_at.new.pass c.leave_queue.ensures.looks c.run_at.ensures.looks)

pub returns-in-Memory-clause-course : goal.returns-in-Memory-clause-course
returns-in-Memory-clause-course g c =
    subst (λ (e : LinkError). WasRun (watched (g.K.Clock.reading c.args.clock.now) g.W.Watch.leaves (g.C.Faulty.faults c.args.caller.now) (g.C.Faulty.faults c.leave_queue.new.caller)) c.args.due c.args.head.now c.args.r c.args.pass.now c.run_at.new.pass (g.L.PodLink.told c.args.link.now) (g.L.PodLink.told c.run_at.new.link) (Err e)) c.in-Memory.is
    (ran_course (watched (g.K.Clock.reading c.args.clock.now) g.W.Watch.leaves (g.C.Faulty.faults c.args.caller.now) (g.C.Faulty.faults c.leave_queue.new.caller)) c.args.due c.args.head.now c.args.r c.args.pass.now c.leave_queue.new.pass c.run_at.new.pass (g.L.PodLink.told c.args.link.now) (g.L.PodLink.told c.run_at.new.link) (Err c.in-Err.error)
    c.run_at.ensures.looks c.leave_queue.ensures.cancels (c.in-Err.ensures.call) c.in-Err.ensures.finish)
