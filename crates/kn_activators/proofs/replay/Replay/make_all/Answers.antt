-- The event, and then the due changes.
use Rattle.std.proofs.Common.{arith}
use Rattle.kn_activators.specs.Sharing.{by_event, changes, changes_most, time_of}
use Rattle.kn_activators.specs.Standing.{one}
use Rattle.kn_activators.proofs.Making.{fails_first, fails_second, makes_both, same_on}
use Rattle.kn_activators.proofs.Pieces.{on_err, on_ok}
use Rattle.kn_activators.proofs.Standings.{below_after, below_less, grows_still}
use Rattle.kn_activators.proofs.replay.Replay.make_all.Goals as goal

pub act-requires-clause-few : goal.act-requires-clause-few
act-requires-clause-few g c = below_less c.args.self.now.group _ _ c.requires.few (omega arith)

pub change_all-requires-clause-few : goal.change_all-requires-clause-few
change_all-requires-clause-few g c = below_after c.args.self.now.group c.act.new.self.group _ one c.act.ensures.same.parts c.act.ensures.load (λ j. omega arith) c.requires.few

pub returns-in-Err-clause-err : goal.returns-in-Err-clause-err
returns-in-Err-clause-err g c =
    let s = c.args.self.now.setup in
    fails_first c.adding_laws.ensures.laws (by_event s c.args.e.now) (changes s (time_of c.args.e.now) (changes_most s)) c.args.self.now (g.O.Sink.held c.args.out.now) (g.O.Sink.held c.act.new.out) c.in-Err.ensures.err

pub returns-clause-ok : goal.returns-clause-ok
returns-clause-ok g c =
    let s = c.args.self.now.setup in
    let time = time_of c.args.e.now in
    let more = rw (c.act.ensures.same.setup, c.time.ensures) at c.change_all.ensures.ok in
    on_ok c.change_all.result
    (makes_both c.adding_laws.ensures.laws (by_event s c.args.e.now) (changes s time (changes_most s)) c.args.self.now c.act.new.self c.change_all.new.self (g.O.Sink.held c.args.out.now) (g.O.Sink.held c.act.new.out) (g.O.Sink.held c.change_all.new.out) c.in-Ok.ensures.ok)
    more

pub returns-clause-err : goal.returns-clause-err
returns-clause-err g c =
    let s = c.args.self.now.setup in
    let time = time_of c.args.e.now in
    let more = rw (c.act.ensures.same.setup, c.time.ensures) at c.change_all.ensures.err in
    on_err c.change_all.result
    (fails_second c.adding_laws.ensures.laws (by_event s c.args.e.now) (changes s time (changes_most s)) c.args.self.now c.act.new.self (g.O.Sink.held c.args.out.now) (g.O.Sink.held c.act.new.out) (g.O.Sink.held c.change_all.new.out) c.in-Ok.ensures.ok)
    more

pub returns-clause-same : goal.returns-clause-same
returns-clause-same g c = same_on c.args.self.now c.act.new.self c.change_all.new.self c.act.ensures.same c.change_all.ensures.same

pub returns-clause-load : goal.returns-clause-load
returns-clause-load g c = grows_still one c.args.self.now.group c.act.new.self.group c.change_all.new.self.group c.act.ensures.same.parts c.act.ensures.load c.change_all.ensures.load
