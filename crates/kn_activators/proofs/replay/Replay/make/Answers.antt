-- The rows were added, or some of them.
use Rattle.kn_slices.specs.Traces.{made_at}
use Rattle.kn_activators.proofs.Making.{fails_one, makes_one, same_one}
use Rattle.kn_activators.proofs.Pieces.{on_err, on_ok}
use Rattle.kn_activators.proofs.replay.Replay.make.Goals as goal

pub returns-clause-ok : goal.returns-clause-ok
returns-clause-ok g c =
    on_ok c.put_rows.result
    (makes_one c.args.change.now.activator (made_at c.args.time c.args.change.now) c.args.self.now c.change_only.new.self c.put_rows.new.self (g.O.Sink.held c.args.out.now) (g.O.Sink.held c.put_rows.new.out) c.change_only.ensures.steps c.put_rows.ensures.group)
    c.put_rows.ensures.ok

pub returns-clause-err : goal.returns-clause-err
returns-clause-err g c =
    on_err c.put_rows.result
    (fails_one c.args.change.now.activator (made_at c.args.time c.args.change.now) c.args.self.now c.change_only.new.self c.put_rows.new.self (g.O.Sink.held c.args.out.now) (g.O.Sink.held c.put_rows.new.out) c.change_only.ensures.steps)
    c.put_rows.ensures.err

pub returns-clause-same : goal.returns-clause-same
returns-clause-same g c =
    same_one c.args.change.now.activator (made_at c.args.time c.args.change.now) c.args.self.now c.change_only.new.self c.put_rows.new.self (g.O.Sink.held c.args.out.now) (g.O.Sink.held c.put_rows.new.out) c.change_only.ensures.steps
    c.put_rows.ensures.setup c.put_rows.ensures.before c.put_rows.ensures.group

pub returns-clause-order : goal.returns-clause-order
returns-clause-order g c = rw c.put_rows.ensures.group c.change_only.ensures.steps.order

pub returns-clause-load : goal.returns-clause-load
returns-clause-load g c = rw c.put_rows.ensures.group c.change_only.ensures.load
