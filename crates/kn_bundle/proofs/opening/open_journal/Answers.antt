use Rattle.std.proofs.Common.{Bool, subst, sym, ap, ◌∙◌}
use Rattle.std.specs.Prelude.{Err, Ok}
use Rattle.std.proofs.lemmas.Result.{err_from_is_err_and}
use Rattle.kn_journal.specs.declared.error.JournalError.{JournalError}
use Rattle.kn_journal.specs.declared.journal.Opening.{Opening}
use Rattle.kn_journal.specs.Bundle.{opening_by}
use Rattle.kn_journal.specs.Reading.{unread}
use Rattle.kn_journal.specs.Telling.{Gives, Refuses, StopsAmid}
use Rattle.kn_bundle.specs.Stages.{OpensStage}
use Rattle.kn_bundle.proofs.Openings.{opens_well, setup_fails, start_fails}
use Rattle.kn_bundle.proofs.opening.open_journal.Goals as goal

pub returns-in_err-setup-clause-opens : goal.returns-in_err-setup-clause-opens
returns-in_err-setup-clause-opens g c =
    let old = unread c.args.reader.now.input (g.S.Source.left c.args.source.now) in
    let new = unread c.setup.new.self.input (g.S.Source.left c.setup.new.source) in
    let good = c.requires.begun.within.good in
    let e = c.in_err-setup.field-0.0 in
    let p = err_from_is_err_and c.from_residual.result c.from_residual.ensures.1 in
    rw (p.1, p.2)
    (setup_fails c.args.reader.now.version c.args.reader.now.number old new c.setup.new.self.version c.setup.new.self.number e
    (subst (λ (b : Bool). Refuses (opening_by b c.args.reader.now.version c.args.reader.now.number) e old) c.requires.begun.begun (c.in_err-setup.ensures.reads.tells good))
    (λ is. subst (λ (b : Bool). StopsAmid (opening_by b c.args.reader.now.version c.args.reader.now.number) old new) c.requires.begun.begun (c.setup.ensures.source.amid good (c.in_err-setup.was ∙ ap (λ (e : JournalError). Err e) is))))

pub returns-clause-text : goal.returns-clause-text
returns-clause-text g c =
    c.text_laws.ensures.laws.more c.setup.new.self.cut c.start.new.self.cut (unread c.args.reader.now.input (g.S.Source.left c.args.source.now)) (unread c.setup.new.self.input (g.S.Source.left c.setup.new.source))
    (unread c.start.new.self.input (g.S.Source.left c.start.new.source)) c.in_ok-setup.ensures.reads.text c.in_ok-start.ensures.text

pub returns-clause-opens : goal.returns-clause-opens
returns-clause-opens g c =
    let old = unread c.args.reader.now.input (g.S.Source.left c.args.source.now) in
    let mid = unread c.setup.new.self.input (g.S.Source.left c.setup.new.source) in
    let new = unread c.start.new.self.input (g.S.Source.left c.start.new.source) in
    let opening : Opening = record { version = c.setup.new.self.version; setup = c.in_ok-setup.setup } in
    let gives = subst (λ (b : Bool). Gives (opening_by b c.args.reader.now.version c.args.reader.now.number) opening c.setup.new.self.number old mid) c.requires.begun.begun (c.in_ok-setup.ensures.reads.tells c.requires.begun.within.good) in
    subst (λ v. OpensStage c.args.reader.now.version c.args.reader.now.number old new v c.start.new.self.number (Ok (c.in_ok-setup.setup, c.in_ok-start.start))) (sym c.start.ensures.journal.version)
    (opens_well c.args.reader.now.version c.args.reader.now.number old mid new c.setup.new.self.version c.in_ok-setup.setup c.setup.new.self.number c.in_ok-start.start c.start.new.self.number gives
    (c.in_ok-start.ensures.reads.tells c.in_ok-setup.ensures.fails.good))

pub returns-in_err-start-clause-opens : goal.returns-in_err-start-clause-opens
returns-in_err-start-clause-opens g c =
    let old = unread c.args.reader.now.input (g.S.Source.left c.args.source.now) in
    let mid = unread c.setup.new.self.input (g.S.Source.left c.setup.new.source) in
    let new = unread c.start.new.self.input (g.S.Source.left c.start.new.source) in
    let good = c.in_ok-setup.ensures.fails.good in
    let opening : Opening = record { version = c.setup.new.self.version; setup = c.in_ok-setup.setup } in
    let gives = subst (λ (b : Bool). Gives (opening_by b c.args.reader.now.version c.args.reader.now.number) opening c.setup.new.self.number old mid) c.requires.begun.begun (c.in_ok-setup.ensures.reads.tells c.requires.begun.within.good) in
    let p = err_from_is_err_and c.from_residual-in_err-start.result c.from_residual-in_err-start.ensures.1 in
    rw (p.1, p.2)
    (start_fails c.text_laws.ensures.laws c.args.reader.now.version c.args.reader.now.number old mid new c.setup.new.self.cut opening c.setup.new.self.number c.start.new.self.version c.start.new.self.number c.in_err-start.field-0.0
    c.openings_are_whole.ensures.setup gives c.in_ok-setup.ensures.reads.text (c.in_err-start.ensures.reads.tells good)
    (λ is. c.start.ensures.source.amid good (c.in_err-start.was ∙ ap (λ (e : JournalError). Err e) is)))
