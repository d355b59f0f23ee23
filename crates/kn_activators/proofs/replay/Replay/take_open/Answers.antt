-- What was made, and then the limits in force that are others.
use Rattle.std.proofs.Common.{◌∙◌, ap, length, subst, sym}
use Rattle.kn_slices.specs.Traces.{GroupState}
use Rattle.kn_activators.specs.Sharing.{and_then, by_event, by_line, changes, changes_most, time_of}
use Rattle.kn_activators.specs.Standing.{AreBefore, Grows, one}
use Rattle.kn_activators.proofs.Making.{fails_line, fails_made, makes_line, on_every}
use Rattle.kn_activators.proofs.Pieces.{on_err, on_ok}
use Rattle.kn_activators.proofs.replay.Replay.take_open.Goals as goal

pub returns-in-Err-clause-err : goal.returns-in-Err-clause-err
unfolding by_line
returns-in-Err-clause-err g c =
    let s = c.args.self.now.setup in
    let time = time_of c.args.e.now in
    fails_made c.adding_laws.ensures.laws (λ x. and_then (by_event s c.args.e.now x) (changes s time (changes_most s))) time c.args.self.now c.keep_forces.new.self c.make_all.new.self (g.O.Sink.held c.args.out.now) (g.O.Sink.held c.args.out.now) (g.O.Sink.held c.make_all.new.out)
    c.keep_forces.ensures.group c.keep_forces.ensures.waiting (rw c.keep_forces.ensures.setup at c.in-Err.ensures.err)

pub returns-clause-ok : goal.returns-clause-ok
unfolding by_line
returns-clause-ok g c =
    let s = c.args.self.now.setup in
    let time = time_of c.args.e.now in
    on_ok c.put_forces.result
    (makes_line c.adding_laws.ensures.laws (λ x. and_then (by_event s c.args.e.now x) (changes s time (changes_most s))) time c.args.self.now c.keep_forces.new.self c.make_all.new.self (g.O.Sink.held c.args.out.now) (g.O.Sink.held c.make_all.new.out) (g.O.Sink.held c.put_forces.new.out)
    c.keep_forces.ensures.group c.keep_forces.ensures.waiting (c.make_all.ensures.same.before ∙ c.keep_forces.ensures.before) (rw c.keep_forces.ensures.setup at c.in-Ok.ensures.ok) c.put_forces.new.self c.put_forces.ensures.group)
    (rw c.time.ensures at c.put_forces.ensures.ok)

pub returns-clause-err : goal.returns-clause-err
unfolding by_line
returns-clause-err g c =
    let s = c.args.self.now.setup in
    let time = time_of c.args.e.now in
    on_err c.put_forces.result
    (fails_line c.adding_laws.ensures.laws (λ x. and_then (by_event s c.args.e.now x) (changes s time (changes_most s))) time c.args.self.now c.keep_forces.new.self c.make_all.new.self (g.O.Sink.held c.args.out.now) (g.O.Sink.held c.make_all.new.out) (g.O.Sink.held c.put_forces.new.out)
    c.keep_forces.ensures.group c.keep_forces.ensures.waiting (c.make_all.ensures.same.before ∙ c.keep_forces.ensures.before) (rw c.keep_forces.ensures.setup at c.in-Ok.ensures.ok))
    (rw c.time.ensures at c.put_forces.ensures.err)

pub returns-clause-parts : goal.returns-clause-parts
returns-clause-parts g c = on_every c.put_forces.result (ap (λ (x : GroupState). length x.parts) c.put_forces.ensures.group ∙ (c.make_all.ensures.same.parts ∙ ap (λ (x : GroupState). length x.parts) c.keep_forces.ensures.group))

pub returns-clause-order : goal.returns-clause-order
returns-clause-order g c = on_every c.put_forces.result (subst (AreBefore (time_of c.args.e.now)) (sym c.put_forces.ensures.group) c.make_all.ensures.order)

pub returns-clause-load : goal.returns-clause-load
returns-clause-load g c = on_every c.put_forces.result (subst (Grows one c.args.self.now.group) (sym c.put_forces.ensures.group) (subst (λ (x : GroupState). Grows one x c.make_all.new.self.group) c.keep_forces.ensures.group c.make_all.ensures.load))
