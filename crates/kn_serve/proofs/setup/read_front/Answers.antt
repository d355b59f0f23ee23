use Rattle.std.proofs.Common.{length, ap, arith}
use Rattle.kn_journal.specs.Reading.{unread}
use Rattle.kn_serve.proofs.SetupFacts.{either, front_from_start, front_memory}
use Rattle.kn_serve.proofs.setup.read_front.Goals as goal

pub returns-in-Err-clause-says : goal.returns-in-Err-clause-says
returns-in-Err-clause-says g c = front_memory (g.S.Source.left c.args.source.now)

pub returns-clause-says : goal.returns-clause-says
returns-clause-says g c =
    front_from_start c.in-Ok.reader c.setup.new.self.version c.setup.new.self.number (g.S.Source.left c.args.source.now) (unread c.setup.new.self.input (g.S.Source.left c.setup.new.source)) c.setup.result
    c.in-Ok.ensures.ahead c.in-Ok.ensures.begun c.in-Ok.ensures.number (c.setup.ensures.reads.tells c.in-Ok.ensures.failed)

pub returns-clause-fault : goal.returns-clause-fault
returns-clause-fault g c is =
    either (c.setup.ensures.source.fault c.in-Ok.ensures.failed is) (λ rose. rose)
    (λ all. omega (arith, all, c.setup.ensures.source.balance, c.in-Ok.ensures.taken, ap length c.in-Ok.ensures.ahead))
