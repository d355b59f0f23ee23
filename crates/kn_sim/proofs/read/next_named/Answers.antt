-- The line was read and judged, or no line was there.
use Rattle.kn_journal.specs.Reading.{unread}
use Rattle.kn_sim.specs.Reading.{named_line_in}
use Rattle.kn_sim.proofs.Drawings.{draws_so, draws_well, judged-no_fault}
use Rattle.kn_sim.proofs.Workloads.{named-lacks, named-tells}
use Rattle.kn_sim.proofs.read.next_named.Goals as goal

pub returns-in-Ok-clause-tells : goal.returns-in-Ok-clause-tells
returns-in-Ok-clause-tells g c =
    named-tells c.args.word.now c.args.least c.args.most c.args.lines.now.number c.next_line.new.self.number (unread c.args.lines.now.input (g.S.Source.left c.args.source.now))
    (unread c.next_line.new.self.input (g.S.Source.left c.next_line.new.source)) c.next_line.new.self.line c.judge_named.result
    c.in-Ok.ensures.taken.line c.in-Ok.ensures.taken.fits c.in-Ok.ensures.taken.number (rw (c.line.ensures, c.number.ensures) at c.judge_named.ensures.judges)

pub returns-in-Ok-clause-source : goal.returns-in-Ok-clause-source
returns-in-Ok-clause-source g c =
    draws_well (judged-no_fault (named_line_in c.args.word.now c.args.least c.args.most) c.number.result c.line.result.now c.judge_named.result c.judge_named.ensures.judges) c.in-Ok.ensures.source

pub returns-in-Err-clause-tells : goal.returns-in-Err-clause-tells
returns-in-Err-clause-tells g c = named-lacks c.args.word.now c.args.least c.args.most c.args.lines.now.number c.in-Err.e (unread c.args.lines.now.input (g.S.Source.left c.args.source.now)) c.in-Err.ensures.none

pub returns-in-Err-clause-source : goal.returns-in-Err-clause-source
returns-in-Err-clause-source g c = draws_so c.in-Err.ensures.source
