-- A setup that was read, and whether an earlier one is of its revision.
use Rattle.std.proofs.Common.{◌∙◌, sym}
use Rattle.std.proofs.lemmas.Result.{err_from_is_err_and}
use Rattle.kn_journal.specs.Reading.{unread}
use Rattle.kn_journal.proofs.Listings.{new-none, new-same, new-tells}
use Rattle.kn_journal.proofs.listed.read_new.Goals as goal

pub returns-in_err-setup-clause-tells : goal.returns-in_err-setup-clause-tells
returns-in_err-setup-clause-tells g c =
    let p = err_from_is_err_and c.from_residual.result c.from_residual.ensures.1 in
    rw (p.1, p.2)
    (new-none c.args.before.now c.args.lines.now.number c.in_err-setup.field-0.0 (unread c.args.lines.now.input (g.S.Source.left c.args.source.now)) c.in_err-setup.ensures.tells)

pub returns-then-is_among-clause-tells : goal.returns-then-is_among-clause-tells
returns-then-is_among-clause-tells g c =
    new-same c.args.before.now c.args.lines.now.number c.read_setup.new.lines.number c.number.result c.in_ok-setup.setup (unread c.args.lines.now.input (g.S.Source.left c.args.source.now))
    (unread c.read_setup.new.lines.input (g.S.Source.left c.read_setup.new.source)) c.number.ensures c.in_ok-setup.ensures.tells (sym c.is_among.ensures ∙ c.if-is_among.true)

pub returns-clause-tells : goal.returns-clause-tells
returns-clause-tells g c =
    new-tells c.args.before.now c.args.lines.now.number c.read_setup.new.lines.number c.in_ok-setup.setup (unread c.args.lines.now.input (g.S.Source.left c.args.source.now))
    (unread c.read_setup.new.lines.input (g.S.Source.left c.read_setup.new.source)) c.in_ok-setup.ensures.tells (sym c.is_among.ensures ∙ c.if-is_among.false)
