-- The count is that of the events written, and once a byte may be written no want of memory is answered.
use Rattle.kn_sim.proofs.print.simulate.Goals as goal

pub returns-in-Ok-write_all-clause-written : goal.returns-in-Ok-write_all-clause-written
returns-in-Ok-write_all-clause-written g c = rw c.events.ensures c.in-Ok-write_all.ensures.ok

pub returns-clause-memory : goal.returns-clause-memory
returns-clause-memory g c = λ h. absurd (cc)
