-- The setup, and then the start.
use Rattle.std.proofs.Common.{ap}
use Rattle.std.specs.Prelude.{Some}
use Rattle.std.proofs.lemmas.Result.{err_from_is_err_and}
use Rattle.kn_journal.specs.declared.error.JournalError.{JournalError}
use Rattle.kn_journal.specs.Reading.{unread}
use Rattle.kn_activators.proofs.Drawings.{draws_more, draws_so}
use Rattle.kn_activators.proofs.Whole.{opens_both, opens_no_setup, opens_no_start}
use Rattle.kn_activators.proofs.follow.open.Goals as goal

pub returns-in_err-setup-clause-opens : goal.returns-in_err-setup-clause-opens
returns-in_err-setup-clause-opens g c =
    let p = err_from_is_err_and c.from_residual.result c.from_residual.ensures.1 in
    rw (p.1, p.2)
    (opens_no_setup c.args.lines.now.number c.read_setup.new.lines.number c.in_err-setup.field-0.0 (unread c.args.lines.now.input (g.S.Source.left c.args.source.now)) (unread c.read_setup.new.lines.input (g.S.Source.left c.read_setup.new.source))
    c.requires.number (λ fault. c.in_err-setup.ensures.source.amid (ap (λ (e : JournalError). Some e) fault)) c.in_err-setup.ensures.tells)

pub returns-in-Err-clause-opens : goal.returns-in-Err-clause-opens
returns-in-Err-clause-opens g c =
    opens_no_start c.text_laws.ensures.laws c.read_setup.new.lines.cut c.args.lines.now.number c.read_setup.new.lines.number c.start.new.self.number c.in_ok-setup.setup c.in-Err.e (unread c.args.lines.now.input (g.S.Source.left c.args.source.now))
    (unread c.read_setup.new.lines.input (g.S.Source.left c.read_setup.new.source)) (unread c.start.new.self.input (g.S.Source.left c.start.new.source)) c.requires.number c.in_ok-setup.ensures.tells c.in_ok-setup.ensures.text
    (λ fault. c.in-Err.ensures.source.amid (ap (λ (e : JournalError). Some e) fault)) c.in-Err.ensures.tells

pub returns-in-Ok-clause-opens : goal.returns-in-Ok-clause-opens
returns-in-Ok-clause-opens g c =
    opens_both c.args.lines.now.number c.read_setup.new.lines.number c.start.new.self.number c.in_ok-setup.setup c.in-Ok.start (unread c.args.lines.now.input (g.S.Source.left c.args.source.now))
    (unread c.read_setup.new.lines.input (g.S.Source.left c.read_setup.new.source)) (unread c.start.new.self.input (g.S.Source.left c.start.new.source)) c.requires.number c.in_ok-setup.ensures.tells c.in-Ok.ensures.tells

pub returns-in_err-setup-clause-source : goal.returns-in_err-setup-clause-source
returns-in_err-setup-clause-source g c =
    let p = err_from_is_err_and c.from_residual.result c.from_residual.ensures.1 in
    rw (p.1, p.2)
    (draws_so c.in_err-setup.ensures.source)

pub returns-in-Err-clause-source : goal.returns-in-Err-clause-source
returns-in-Err-clause-source g c = draws_more c.in_ok-setup.ensures.source c.in-Err.ensures.source

pub returns-in-Ok-clause-source : goal.returns-in-Ok-clause-source
returns-in-Ok-clause-source g c = draws_more c.in_ok-setup.ensures.source c.in-Ok.ensures.source

pub returns-in-Ok-clause-text : goal.returns-in-Ok-clause-text
returns-in-Ok-clause-text g c =
    c.text_laws.ensures.laws.more c.read_setup.new.lines.cut c.start.new.self.cut (unread c.args.lines.now.input (g.S.Source.left c.args.source.now)) (unread c.read_setup.new.lines.input (g.S.Source.left c.read_setup.new.source))
    (unread c.start.new.self.input (g.S.Source.left c.start.new.source)) c.in_ok-setup.ensures.text c.in-Ok.ensures.text
