use Rattle.kn_journal.specs.Reading.{unread}
use Rattle.kn_many.proofs.SetupsFacts.{setups_out, setups_said, told_from_start}
use Rattle.kn_many.proofs.setups.read_setups.Goals as goal

pub returns-clause-says : goal.returns-clause-says
returns-clause-says g c =
    setups_said c.args.count c.setups.new.self.number (g.S.Source.left c.args.source.now) (unread c.setups.new.self.input (g.S.Source.left c.setups.new.source)) c.setups.result
    (told_from_start c.in-Ok.reader c.args.count c.setups.new.self.number (g.S.Source.left c.args.source.now) (unread c.setups.new.self.input (g.S.Source.left c.setups.new.source)) c.setups.result
    c.in-Ok.ensures.ahead c.in-Ok.ensures.number (c.setups.ensures.tells c.in-Ok.ensures.failed))

pub returns-clause-whole : goal.returns-clause-whole
returns-clause-whole g c =
    setups_out c.wide_laws.ensures c.args.count c.setups.new.self.number (g.S.Source.left c.args.source.now) c.setups.new.self.input.ahead (g.S.Source.left c.setups.new.source) c.setups.result
    (told_from_start c.in-Ok.reader c.args.count c.setups.new.self.number (g.S.Source.left c.args.source.now) (unread c.setups.new.self.input (g.S.Source.left c.setups.new.source)) c.setups.result
    c.in-Ok.ensures.ahead c.in-Ok.ensures.number (c.setups.ensures.tells c.in-Ok.ensures.failed))
