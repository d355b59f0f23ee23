-- The first line, and then the setups.
use Rattle.kn_journal.specs.Reading.{unread}
use Rattle.kn_journal.proofs.Listings.{listed-tells, not-listed}
use Rattle.kn_journal.proofs.listed.read_setups.Goals as goal

pub returns-in-Err-clause-tells : goal.returns-in-Err-clause-tells
returns-in-Err-clause-tells g c =
    not-listed c.args.lines.now.number c.args.n c.in-Err.e (unread c.args.lines.now.input (g.S.Source.left c.args.source.now)) c.in-Err.ensures.tells

pub returns-clause-tells : goal.returns-clause-tells
returns-clause-tells g c =
    listed-tells c.args.lines.now.number c.args.n c.first.new.self.number c.read_all.new.lines.number c.in-Ok.field-0 (unread c.args.lines.now.input (g.S.Source.left c.args.source.now))
    (unread c.first.new.self.input (g.S.Source.left c.first.new.source)) (unread c.read_all.new.lines.input (g.S.Source.left c.read_all.new.source)) c.read_all.result c.in-Ok.ensures.tells c.read_all.ensures.tells
