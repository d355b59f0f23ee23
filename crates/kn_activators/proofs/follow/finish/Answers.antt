-- The last line, and what still waits.
use Rattle.kn_activators.proofs.follow.finish.Goals as goal

pub returns-in-Ok-flush-clause-ok : goal.returns-in-Ok-flush-clause-ok
returns-in-Ok-flush-clause-ok g c = c.adding_laws.ensures.laws.done (c.adding_laws.ensures.laws.on c.in-Ok.ensures.ok c.in-Ok-flush.ensures.ok) c.flush.ensures.empty

pub returns-in-Err-flush-clause-some : goal.returns-in-Err-flush-clause-some
returns-in-Err-flush-clause-some g c = c.adding_laws.ensures.laws.stop (g.O.Sink.held c.flush.new.out) c.in-Ok.ensures.ok c.in-Err-flush.ensures.err
