-- Line 1, and then the setup.
use Rattle.std.proofs.lemmas.Result.{err_from_is_err_and}
use Rattle.kn_journal.specs.Reading.{unread}
use Rattle.kn_activators.specs.Verdict.{setup_line_in}
use Rattle.kn_activators.proofs.Breaks.{opening_stops, setup_stops}
use Rattle.kn_activators.proofs.Pieces.{any_ok, on_ok}
use Rattle.kn_activators.proofs.Drawings.{draws_as, draws_more, draws_then, draws_well, judged-no_fault}
use Rattle.kn_activators.proofs.Parts.{opening-lacks, opening-no_first, opening-tells}
use Rattle.kn_activators.proofs.read.read_setup.Goals as goal

pub returns-in_err-many-clause-tells : goal.returns-in_err-many-clause-tells
returns-in_err-many-clause-tells g c =
    let p = err_from_is_err_and c.from_residual.result c.from_residual.ensures.1 in
    rw (p.1, p.2)
    (opening-no_first c.args.lines.now.number c.in_err-many.field-0.0 (unread c.args.lines.now.input (g.S.Source.left c.args.source.now)) c.in_err-many.ensures.tells)

pub returns-in_err-many-clause-source : goal.returns-in_err-many-clause-source
returns-in_err-many-clause-source g c =
    let p = err_from_is_err_and c.from_residual.result c.from_residual.ensures.1 in
    rw (p.1, p.2)
    (draws_as (opening_stops c.text_laws.ensures.laws c.args.lines.now.number (unread c.args.lines.now.input (g.S.Source.left c.args.source.now)) (unread c.first.new.self.input (g.S.Source.left c.first.new.source)))
    c.in_err-many.ensures.source)

pub returns-in-Ok-clause-tells : goal.returns-in-Ok-clause-tells
returns-in-Ok-clause-tells g c =
    opening-tells c.in_ok-many.many c.args.lines.now.number c.first.new.self.number c.next_line.new.self.number (unread c.args.lines.now.input (g.S.Source.left c.args.source.now)) (unread c.first.new.self.input (g.S.Source.left c.first.new.source))
    (unread c.next_line.new.self.input (g.S.Source.left c.next_line.new.source)) c.next_line.new.self.line c.judge_setup.result
    c.in_ok-many.ensures.tells c.in-Ok.ensures.taken.line c.in-Ok.ensures.taken.fits c.in-Ok.ensures.taken.number (rw (c.line.ensures, c.number.ensures) at c.judge_setup.ensures.judges)

pub returns-in-Ok-clause-source : goal.returns-in-Ok-clause-source
returns-in-Ok-clause-source g c =
    let fine = judged-no_fault (setup_line_in c.in_ok-many.many) c.number.result c.line.result.now c.judge_setup.result c.judge_setup.ensures.judges in
    draws_well fine (draws_more c.in_ok-many.ensures.source c.in-Ok.ensures.source)

pub returns-in-Ok-clause-text : goal.returns-in-Ok-clause-text
returns-in-Ok-clause-text g c =
    let old = unread c.args.lines.now.input (g.S.Source.left c.args.source.now) in
    let mid = unread c.first.new.self.input (g.S.Source.left c.first.new.source) in
    let new = unread c.next_line.new.self.input (g.S.Source.left c.next_line.new.source) in
    on_ok c.judge_setup.result (λ (u : Unit {0}). c.text_laws.ensures.laws.more c.first.new.self.cut c.next_line.new.self.cut old mid new c.in_ok-many.ensures.text c.in-Ok.ensures.taken.text) (any_ok c.judge_setup.result)

pub returns-in-Err-clause-tells : goal.returns-in-Err-clause-tells
returns-in-Err-clause-tells g c =
    opening-lacks c.in_ok-many.many c.args.lines.now.number c.first.new.self.number c.in-Err.e (unread c.args.lines.now.input (g.S.Source.left c.args.source.now)) (unread c.first.new.self.input (g.S.Source.left c.first.new.source))
    c.in_ok-many.ensures.tells c.in-Err.ensures.none

pub returns-in-Err-clause-source : goal.returns-in-Err-clause-source
returns-in-Err-clause-source g c =
    let old = unread c.args.lines.now.input (g.S.Source.left c.args.source.now) in
    let mid = unread c.first.new.self.input (g.S.Source.left c.first.new.source) in
    let new = unread c.next_line.new.self.input (g.S.Source.left c.next_line.new.source) in
    draws_then (setup_stops c.text_laws.ensures.laws c.first.new.self.cut c.args.lines.now.number c.in_ok-many.many c.first.new.self.number old mid new c.in_ok-many.ensures.tells c.in_ok-many.ensures.text)
    c.in_ok-many.ensures.source c.in-Err.ensures.source
