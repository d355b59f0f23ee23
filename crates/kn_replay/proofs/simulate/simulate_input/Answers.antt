use Rattle.kn_replay.proofs.Simulates.{written}
use Rattle.kn_replay.proofs.simulate.simulate_input.Goals as goal

pub returns-in-Ok-simulate-clause-simulates : goal.returns-in-Ok-simulate-clause-simulates
returns-in-Ok-simulate-clause-simulates g c =
    written (g.S.Source.left c.args.input.now) (g.O.Sink.held c.args.out.now) (g.O.Sink.held c.simulate.new.out) c.in-Ok.workload
    c.in-Ok-simulate.field-0 c.journals_are_read.ensures.read (rw c.in-Ok.is at c.read_workload.ensures.tells) c.in-Ok-simulate.ensures.written
