-- The opening, the events, the end, and what still waits.
use Rattle.std.proofs.Common.{[]}
use Rattle.kn_sim.specs.Simulated.{plain_of}
use Rattle.kn_sim.proofs.Pieces.{on_err, on_ok}
use Rattle.kn_sim.proofs.Wholes.{cut_end, cut_events, cut_opening, cut_rest, whole}
use Rattle.kn_sim.proofs.print.write_all.Goals as goal

pub returns-in-Err-clause-err : goal.returns-in-Err-clause-err
returns-in-Err-clause-err g c = cut_opening c.adding_laws.ensures.laws c.args.w.now (g.O.Sink.held c.args.out.now) (g.O.Sink.held c.write_opening.new.out) (rw c.new-waiting.ensures at c.in-Err.ensures.err)

pub returns-in-Err-write_events-clause-err : goal.returns-in-Err-write_events-clause-err
returns-in-Err-write_events-clause-err g c =
    cut_events c.adding_laws.ensures.laws c.args.w.now c.args.schedule.now (g.O.Sink.held c.args.out.now) (g.O.Sink.held c.write_opening.new.out) (g.O.Sink.held c.write_events.new.out) c.write_opening.new.waiting c.requires.workload
    (rw c.new-waiting.ensures at c.in-Ok.ensures.ok) (c.in-Err-write_events.ensures.err [] c.requires.made)

pub returns-in-Err-add-clause-err : goal.returns-in-Err-add-clause-err
returns-in-Err-add-clause-err g c =
    cut_end c.adding_laws.ensures.laws c.args.w.now c.args.schedule.now c.write_events.new.schedule (g.O.Sink.held c.args.out.now) (g.O.Sink.held c.write_opening.new.out) (g.O.Sink.held c.write_events.new.out) (g.O.Sink.held c.add.new.out) c.write_opening.new.waiting c.write_events.new.waiting
    c.requires.workload (λ es all. c.schedule_laws.ensures.one (plain_of c.args.w.now) es all) (rw c.new-waiting.ensures at c.in-Ok.ensures.ok) (c.in-Ok-write_events.ensures.ok [] c.requires.made) c.in-Err-add.ensures.err

pub returns-clause-ok : goal.returns-clause-ok
returns-clause-ok g c =
    on_ok c.flush.result
    (λ rest. whole c.adding_laws.ensures.laws c.args.w.now c.args.schedule.now c.write_events.new.schedule (g.O.Sink.held c.args.out.now) (g.O.Sink.held c.write_opening.new.out) (g.O.Sink.held c.write_events.new.out) (g.O.Sink.held c.add.new.out) (g.O.Sink.held c.flush.new.out)
    c.write_opening.new.waiting c.write_events.new.waiting c.add.new.self c.flush.new.self c.requires.good c.requires.workload c.requires.clock
    (rw c.new-waiting.ensures at c.in-Ok.ensures.ok) (c.in-Ok-write_events.ensures.ok [] c.requires.made) c.in-Ok-add.ensures.ok rest c.flush.ensures.empty)
    c.flush.ensures.ok

pub returns-clause-err : goal.returns-clause-err
returns-clause-err g c =
    on_err c.flush.result
    (λ rest. cut_rest c.adding_laws.ensures.laws c.args.w.now c.args.schedule.now c.write_events.new.schedule (g.O.Sink.held c.args.out.now) (g.O.Sink.held c.write_opening.new.out) (g.O.Sink.held c.write_events.new.out) (g.O.Sink.held c.add.new.out) (g.O.Sink.held c.flush.new.out)
    c.write_opening.new.waiting c.write_events.new.waiting c.add.new.self c.requires.workload (λ es all. c.schedule_laws.ensures.one (plain_of c.args.w.now) es all) (rw c.new-waiting.ensures at c.in-Ok.ensures.ok) (c.in-Ok-write_events.ensures.ok [] c.requires.made) c.in-Ok-add.ensures.ok rest)
    c.flush.ensures.err
