-- A line that was read and judged, or none.
use Rattle.kn_journal.specs.Reading.{unread}
use Rattle.kn_journal.proofs.Bundles.{first_of-rest, first_of-tells}
use Rattle.kn_journal.proofs.bundle.read_first_of.Goals as goal

pub returns-in-Ok-clause-tells : goal.returns-in-Ok-clause-tells
returns-in-Ok-clause-tells g c =
    first_of-tells c.args.lines.now.number c.next_line.new.self.number (unread c.args.lines.now.input (g.S.Source.left c.args.source.now))
    (unread c.next_line.new.self.input (g.S.Source.left c.next_line.new.source)) c.next_line.new.self.line c.judge_first_of.result
    c.in-Ok.ensures.taken.line c.in-Ok.ensures.taken.fits c.in-Ok.ensures.taken.number (rw (c.line.ensures, c.number.ensures) at c.judge_first_of.ensures.judges)

pub returns-in-Ok-clause-rest : goal.returns-in-Ok-clause-rest
returns-in-Ok-clause-rest g c =
    first_of-rest c.args.lines.now.number c.next_line.new.self.number (unread c.args.lines.now.input (g.S.Source.left c.args.source.now))
    (unread c.next_line.new.self.input (g.S.Source.left c.next_line.new.source)) c.next_line.new.self.line c.judge_first_of.result
    c.in-Ok.ensures.taken.line c.in-Ok.ensures.taken.fits c.in-Ok.ensures.taken.number (rw (c.line.ensures, c.number.ensures) at c.judge_first_of.ensures.judges)
