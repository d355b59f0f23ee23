-- The first line and the setup, or where they ended.
use Rattle.std.proofs.lemmas.Result.{err_from_is_err_and}
use Rattle.kn_journal.specs.Reading.{unread}
use Rattle.kn_journal.proofs.Drawings.{draws_both, draws_in, draws_more, draws_well}
use Rattle.kn_journal.proofs.Setups.{first-none, opening-first_stops, opening-gives, opening-no_first, opening-no_setup, opening-setup_stops}
use Rattle.kn_journal.proofs.SetupRests.{opening-first_rest, opening-setup_rest}
use Rattle.kn_journal.proofs.Texts.{text-more}
use Rattle.kn_journal.proofs.setup.read_opening.Goals as goal

pub returns-in_err-version-clause-tells : goal.returns-in_err-version-clause-tells
returns-in_err-version-clause-tells g c =
    let p = err_from_is_err_and c.from_residual.result c.from_residual.ensures.1 in
    rw (p.1, p.2)
    (opening-no_first c.args.first c.args.lines.now.number (unread c.args.lines.now.input (g.S.Source.left c.args.source.now)) c.in_err-version.field-0.0 c.in_err-version.ensures.tells)

pub returns-in_err-version-clause-source : goal.returns-in_err-version-clause-source
returns-in_err-version-clause-source g c =
    let p = err_from_is_err_and c.from_residual.result c.from_residual.ensures.1 in
    rw (p.1, p.2)
    (draws_in c.in_err-version.ensures.source (λ h.
    let old = unread c.args.lines.now.input (g.S.Source.left c.args.source.now) in
    let new = unread c.first.new.self.input (g.S.Source.left c.first.new.source) in
    opening-first_stops c.args.first c.args.lines.now.number old new (first-none c.args.first c.args.lines.now.number old new h)))

pub returns-in-Ok-clause-tells : goal.returns-in-Ok-clause-tells
returns-in-Ok-clause-tells g c =
    opening-gives c.args.first c.args.lines.now.number c.first.new.self.number c.read_setup.new.lines.number c.in_ok-version.version c.in-Ok.setup
    (unread c.args.lines.now.input (g.S.Source.left c.args.source.now)) (unread c.first.new.self.input (g.S.Source.left c.first.new.source))
    (unread c.read_setup.new.lines.input (g.S.Source.left c.read_setup.new.source)) c.in_ok-version.ensures.tells c.in-Ok.ensures.tells

pub returns-in-Err-clause-tells : goal.returns-in-Err-clause-tells
returns-in-Err-clause-tells g c =
    opening-no_setup c.args.first c.args.lines.now.number c.first.new.self.number c.in_ok-version.version
    (unread c.args.lines.now.input (g.S.Source.left c.args.source.now)) (unread c.first.new.self.input (g.S.Source.left c.first.new.source)) c.in-Err.e
    c.in_ok-version.ensures.tells c.in-Err.ensures.tells

pub returns-in-Err-clause-source : goal.returns-in-Err-clause-source
returns-in-Err-clause-source g c =
    draws_more c.in_ok-version.ensures.source c.in-Err.ensures.source (λ h.
    opening-setup_stops c.args.first c.args.lines.now.number c.first.new.self.number c.in_ok-version.version c.first.new.self.cut
    (unread c.args.lines.now.input (g.S.Source.left c.args.source.now)) (unread c.first.new.self.input (g.S.Source.left c.first.new.source))
    (unread c.read_setup.new.lines.input (g.S.Source.left c.read_setup.new.source)) c.in_ok-version.ensures.tells c.in_ok-version.ensures.text (c.in-Err.ensures.source.amid h))

pub returns-in_err-version-clause-rest : goal.returns-in_err-version-clause-rest
returns-in_err-version-clause-rest g c =
    let p = err_from_is_err_and c.from_residual.result c.from_residual.ensures.1 in
    rw (p.1, p.2)
    (λ is. opening-first_rest c.args.first c.args.lines.now.number c.in_err-version.field-0.0 (unread c.args.lines.now.input (g.S.Source.left c.args.source.now)) (unread c.first.new.self.input (g.S.Source.left c.first.new.source)) (c.in_err-version.ensures.rest is))

pub returns-in-Err-clause-rest : goal.returns-in-Err-clause-rest
returns-in-Err-clause-rest g c is =
    opening-setup_rest c.args.first c.args.lines.now.number c.first.new.self.number c.in_ok-version.version c.in-Err.e
    (unread c.args.lines.now.input (g.S.Source.left c.args.source.now)) (unread c.first.new.self.input (g.S.Source.left c.first.new.source)) (unread c.read_setup.new.lines.input (g.S.Source.left c.read_setup.new.source)) c.in_ok-version.ensures.tells (c.in-Err.ensures.rest is)

pub returns-in-Ok-clause-source : goal.returns-in-Ok-clause-source
returns-in-Ok-clause-source g c = draws_well tt (draws_both c.in_ok-version.ensures.source c.in-Ok.ensures.source)

pub returns-in-Ok-clause-text : goal.returns-in-Ok-clause-text
returns-in-Ok-clause-text g c =
    text-more c.first.new.self.cut c.read_setup.new.lines.cut (unread c.args.lines.now.input (g.S.Source.left c.args.source.now)) (unread c.first.new.self.input (g.S.Source.left c.first.new.source))
    (unread c.read_setup.new.lines.input (g.S.Source.left c.read_setup.new.source)) c.in_ok-version.ensures.text c.in-Ok.ensures.text
