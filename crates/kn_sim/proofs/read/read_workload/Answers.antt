-- From the first byte on.
use Rattle.kn_journal.specs.Reading.{unread}
use Rattle.kn_sim.proofs.Workloads.{at_fault, told}
use Rattle.kn_sim.proofs.read.read_workload.Goals as goal

pub returns-clause-tells : goal.returns-clause-tells
returns-clause-tells g c =
    told c.in-Ok.lines.number c.read_lines.new.lines.number c.in-Ok.lines.input (g.S.Source.left c.args.source.now) (unread c.read_lines.new.lines.input (g.S.Source.left c.read_lines.new.source)) c.read_lines.result
    c.in-Ok.ensures.number c.in-Ok.ensures.ahead c.read_lines.ensures.tells

pub returns-clause-fault : goal.returns-clause-fault
returns-clause-fault g c = at_fault c.in-Ok.lines.input c.read_lines.new.lines.input c.args.source.now c.read_lines.new.source c.read_lines.result c.in-Ok.ensures.taken c.in-Ok.ensures.ahead c.read_lines.ensures.source
