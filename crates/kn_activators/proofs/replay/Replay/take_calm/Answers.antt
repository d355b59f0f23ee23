use Rattle.kn_activators.proofs.Calm.{fails_calm, makes_calm}
use Rattle.kn_activators.proofs.Pieces.{on_err, on_ok}
use Rattle.kn_activators.proofs.replay.Replay.take_calm.Goals as goal

pub returns-clause-ok : goal.returns-clause-ok
returns-clause-ok g c =
    on_ok c.step.result
    (makes_calm c.args.self.now.setup c.args.i c.args.e.now c.args.self.now c.step.new.self (g.O.Sink.held c.args.out.now) (g.O.Sink.held c.step.new.out) c.requires.calm (c.step.ensures.calm c.requires.calm))
    c.step.ensures.ok

pub returns-clause-err : goal.returns-clause-err
returns-clause-err g c =
    on_err c.step.result (fails_calm c.adding_laws.ensures.laws c.args.self.now.setup c.args.i c.args.e.now c.args.self.now (g.O.Sink.held c.args.out.now) (g.O.Sink.held c.step.new.out)) c.step.ensures.err
