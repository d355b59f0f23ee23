-- One line more.
use Rattle.std.proofs.Common.{◌∙◌, refl, ap, arith}
use Rattle.kn_agenda.specs.Workload.{Workload}
use Rattle.kn_sim.proofs.Writing.{go_all, go_more, go_some, go_start}
use Rattle.kn_sim.proofs.print.write_events.Goals as goal

pub loop-e-init : goal.loop-e-init
loop-e-init g c = record {
  goes = λ before made. go_start c.adding_laws.ensures.laws before c.args.schedule.now (g.O.Sink.held c.args.out.now) c.args.waiting.now made;
  workload = refl;
  kept = refl;
  later = omega arith;
}

pub loop-e-preserved : goal.loop-e-preserved
loop-e-preserved g c = record {
  goes = λ before made.
      go_more c.adding_laws.ensures.laws before c.args.schedule.now c.loop-e.schedule c.next.new.self (g.O.Sink.held c.args.out.now) (g.O.Sink.held c.loop-e.out) (g.O.Sink.held c.add.new.out) c.args.waiting.now c.loop-e.waiting c.add.new.self c.in-Some.e
      (c.loop-e.invariant.goes before made) c.in-Some.ensures.goes c.in-Some.ensures.order
      (let same = ap (λ (w : Workload). w.until) c.loop-e.invariant.workload in omega (arith, same, c.in-Some.ensures.until, c.requires))
      c.in-Some.ensures.range c.in-Some.ensures.version c.in-Some.ensures.clock (rw (c.bytes.ensures ∙ c.event_line.ensures) at c.in-Ok.ensures.ok);
  workload = c.in-Some.ensures.workload ∙ c.loop-e.invariant.workload;
  kept = c.add.ensures.kept_stays ∙ c.loop-e.invariant.kept;
  later = omega (arith, c.loop-e.invariant.later, c.add.ensures.cause.never_falls);
}

pub loop-e-smaller : goal.loop-e-smaller
loop-e-smaller g c = omega (arith, c.in-Some.ensures.counted, c.in-Some.ensures.few)

pub returns-in-Err-clause-err : goal.returns-in-Err-clause-err
returns-in-Err-clause-err g c = λ before made.
    go_some c.adding_laws.ensures.laws before c.args.schedule.now c.loop-e.schedule c.next.new.self (g.O.Sink.held c.args.out.now) (g.O.Sink.held c.loop-e.out) (g.O.Sink.held c.add.new.out) c.args.waiting.now c.loop-e.waiting c.in-Some.e
    (c.in-Some.ensures.workload ∙ c.loop-e.invariant.workload) (c.loop-e.invariant.goes before made) c.in-Some.ensures.goes
    (λ es all. c.schedule_laws.ensures.front c.args.schedule.now.workload es all) (rw (c.bytes.ensures ∙ c.event_line.ensures) at c.in-Err.ensures.err)

pub returns-clause-ok : goal.returns-clause-ok
returns-clause-ok g c = λ before made.
    go_all before c.args.schedule.now c.loop-e.schedule c.next.new.self (g.O.Sink.held c.args.out.now) (g.O.Sink.held c.loop-e.out) c.args.waiting.now c.loop-e.waiting c.loop-e.invariant.workload
    (c.loop-e.invariant.goes before made) (c.in_default.ensures.over refl) (c.in_default.ensures.stays refl)
