use Rattle.std.proofs.Common.{arith, ◌≡◌, Bool, ℕ, ◌+◌, ap, ◌∙◌, subst, sym}
use Rattle.std.specs.Prelude.{Err, Ok, Some}
use Rattle.std.proofs.lemmas.Result.{err_from_is_err_and}
use Rattle.kn_preamble.specs.declared.first.FirstLine.TheVariants.{Journal as JournalLine}
use Rattle.kn_journal.specs.declared.error.JournalError.{JournalError}
use Rattle.kn_journal.specs.declared.error.JournalError.TheVariants as error
use Rattle.kn_journal.specs.declared.journal.Opening.{Opening}
use Rattle.kn_journal.specs.Bundle.{opening_by}
use Rattle.kn_journal.specs.Journal.{opening_part}
use Rattle.kn_journal.specs.Reading.{unread}
use Rattle.kn_journal.specs.Telling.{Gives, IsLineFault, LeavesRest, Refuses, StopsAmid}
use Rattle.kn_follow.specs.Following.{Opens}
use Rattle.kn_follow.proofs.Behind.{setup_behind, start_behind}
use Rattle.kn_follow.proofs.Faults.{opens_well, setup_fails, start_fails}
use Rattle.kn_follow.proofs.Nexts.{broken_on}
use Rattle.kn_follow.proofs.journal.open.Goals as goal

pub returns-in_err-setup-clause-opens : goal.returns-in_err-setup-clause-opens
returns-in_err-setup-clause-opens g c =
    let old = unread c.args.reader.now.input (g.S.Source.left c.args.source.now) in
    let new = unread c.setup.new.self.input (g.S.Source.left c.setup.new.source) in
    let e = c.in_err-setup.field-0.0 in
    let p = err_from_is_err_and c.from_residual.result c.from_residual.ensures.1 in
    rw (p.1, p.2)
    (setup_fails old new c.setup.new.self.version c.setup.new.self.number e
    (subst (λ (n : ℕ). Refuses (opening_part JournalLine n) e old) c.requires.number (subst (λ (b : Bool). Refuses (opening_by b c.args.reader.now.version c.args.reader.now.number) e old) c.requires.begun (c.in_err-setup.ensures.reads.tells c.requires.good)))
    (λ is. subst (λ (n : ℕ). StopsAmid (opening_part JournalLine n) old new) c.requires.number (subst (λ (b : Bool). StopsAmid (opening_by b c.args.reader.now.version c.args.reader.now.number) old new) c.requires.begun (c.setup.ensures.source.amid c.requires.good (c.in_err-setup.was ∙ ap (λ (e : JournalError). Err e) is)))))

pub returns-in_err-setup-clause-rest : goal.returns-in_err-setup-clause-rest
returns-in_err-setup-clause-rest g c =
    let old = unread c.args.reader.now.input (g.S.Source.left c.args.source.now) in
    let new = unread c.setup.new.self.input (g.S.Source.left c.setup.new.source) in
    let e = c.in_err-setup.field-0.0 in
    let p = err_from_is_err_and c.from_residual.result c.from_residual.ensures.1 in
    rw (p.1, p.2)
    (setup_behind old new e
    (subst (λ (n : ℕ). IsLineFault e → LeavesRest (opening_part JournalLine n) n (Some (n + 1)) e old new) c.requires.number
    (subst (λ (b : Bool). IsLineFault e → LeavesRest (opening_by b c.args.reader.now.version c.args.reader.now.number) c.args.reader.now.number (Some (c.args.reader.now.number + 1)) e old new) c.requires.begun (c.in_err-setup.ensures.reads.rest c.requires.good))))

pub returns-in_err-start-clause-rest : goal.returns-in_err-start-clause-rest
returns-in_err-start-clause-rest g c =
    let old = unread c.args.reader.now.input (g.S.Source.left c.args.source.now) in
    let mid = unread c.setup.new.self.input (g.S.Source.left c.setup.new.source) in
    let new = unread c.start.new.self.input (g.S.Source.left c.start.new.source) in
    let good = c.in_ok-setup.ensures.fails.good in
    let opening : Opening = record { version = c.setup.new.self.version; setup = c.in_ok-setup.setup } in
    let p = err_from_is_err_and c.from_residual-in_err-start.result c.from_residual-in_err-start.ensures.1 in
    rw (p.1, p.2)
    (start_behind old mid new opening c.setup.new.self.number c.in_err-start.field-0.0 c.openings_are_whole.ensures.opening
    (subst (λ (n : ℕ). Gives (opening_part JournalLine n) opening c.setup.new.self.number old mid) c.requires.number
    (subst (λ (b : Bool). Gives (opening_by b c.args.reader.now.version c.args.reader.now.number) opening c.setup.new.self.number old mid) c.requires.begun (c.in_ok-setup.ensures.reads.tells c.requires.good)))
    (c.in_err-start.ensures.reads.rest good))

pub returns-in_err-start-clause-opens : goal.returns-in_err-start-clause-opens
returns-in_err-start-clause-opens g c =
    let old = unread c.args.reader.now.input (g.S.Source.left c.args.source.now) in
    let mid = unread c.setup.new.self.input (g.S.Source.left c.setup.new.source) in
    let new = unread c.start.new.self.input (g.S.Source.left c.start.new.source) in
    let good = c.in_ok-setup.ensures.fails.good in
    let opening : Opening = record { version = c.setup.new.self.version; setup = c.in_ok-setup.setup } in
    let p = err_from_is_err_and c.from_residual-in_err-start.result c.from_residual-in_err-start.ensures.1 in
    rw (p.1, p.2)
    (start_fails c.text_laws.ensures.laws old mid new c.setup.new.self.cut opening c.setup.new.self.number c.start.new.self.version c.start.new.self.number c.in_err-start.field-0.0 c.openings_are_whole.ensures.opening
    (subst (λ (n : ℕ). Gives (opening_part JournalLine n) opening c.setup.new.self.number old mid) c.requires.number
    (subst (λ (b : Bool). Gives (opening_by b c.args.reader.now.version c.args.reader.now.number) opening c.setup.new.self.number old mid) c.requires.begun (c.in_ok-setup.ensures.reads.tells c.requires.good)))
    c.in_ok-setup.ensures.reads.text (c.in_err-start.ensures.reads.tells good)
    (λ is. c.start.ensures.source.amid good (c.in_err-start.was ∙ ap (λ (e : JournalError). Err e) is)))

pub returns-clause-text : goal.returns-clause-text
returns-clause-text g c =
    c.text_laws.ensures.laws.more c.setup.new.self.cut c.start.new.self.cut (unread c.args.reader.now.input (g.S.Source.left c.args.source.now)) (unread c.setup.new.self.input (g.S.Source.left c.setup.new.source))
    (unread c.start.new.self.input (g.S.Source.left c.start.new.source)) c.in_ok-setup.ensures.reads.text c.in_ok-start.ensures.text

pub returns-clause-opens : goal.returns-clause-opens
returns-clause-opens g c =
    let old = unread c.args.reader.now.input (g.S.Source.left c.args.source.now) in
    let mid = unread c.setup.new.self.input (g.S.Source.left c.setup.new.source) in
    let new = unread c.start.new.self.input (g.S.Source.left c.start.new.source) in
    let opening : Opening = record { version = c.setup.new.self.version; setup = c.in_ok-setup.setup } in
    subst (λ (v : ℕ). Opens old new v c.start.new.self.number (Ok (c.in_ok-setup.setup, c.in_ok-start.start))) (sym c.start.ensures.journal.version)
    (opens_well old mid new c.setup.new.self.version c.in_ok-setup.setup c.setup.new.self.number c.in_ok-start.start c.start.new.self.number
    (subst (λ (n : ℕ). Gives (opening_part JournalLine n) opening c.setup.new.self.number old mid) c.requires.number
    (subst (λ (b : Bool). Gives (opening_by b c.args.reader.now.version c.args.reader.now.number) opening c.setup.new.self.number old mid) c.requires.begun (c.in_ok-setup.ensures.reads.tells c.requires.good)))
    (c.in_ok-start.ensures.reads.tells c.in_ok-setup.ensures.fails.good))

-- ---- the source

pub returns-in_err-setup-clause-broken : goal.returns-in_err-setup-clause-broken
returns-in_err-setup-clause-broken g c is =
    let e = c.in_err-setup.field-0.0 in
    let p = err_from_is_err_and c.from_residual.result c.from_residual.ensures.1 in
    let told = p.1 in
    let made : p.0 ≡ e = p.2 in
    let same : e ≡ error.ReadFault = cc in
    let fault = c.in_err-setup.was ∙ ap (λ (e : JournalError). Err e) same in
    broken_on {a = g.S.Faulty.faults c.args.source.now} (omega arith) (c.setup.ensures.source.spent c.requires.good fault) (c.setup.ensures.source.fault c.requires.good fault)

pub returns-in_err-setup-clause-draws : goal.returns-in_err-setup-clause-draws
returns-in_err-setup-clause-draws g c = record { balance = c.setup.ensures.source.balance; never_falls = c.setup.ensures.source.never_falls }

pub returns-in_err-start-clause-broken : goal.returns-in_err-start-clause-broken
returns-in_err-start-clause-broken g c is =
    let good = c.in_ok-setup.ensures.fails.good in
    let e = c.in_err-start.field-0.0 in
    let p = err_from_is_err_and c.from_residual-in_err-start.result c.from_residual-in_err-start.ensures.1 in
    let told = p.1 in
    let made : p.0 ≡ e = p.2 in
    let same : e ≡ error.ReadFault = cc in
    let fault = c.in_err-start.was ∙ ap (λ (e : JournalError). Err e) same in
    broken_on c.setup.ensures.source.never_falls (c.start.ensures.source.spent good fault) (c.start.ensures.source.fault good fault)

pub returns-in_err-start-clause-draws : goal.returns-in_err-start-clause-draws
returns-in_err-start-clause-draws g c = record {
  balance = omega (arith, c.setup.ensures.source.balance, c.start.ensures.source.balance);
  never_falls = omega (arith, c.setup.ensures.source.never_falls, c.start.ensures.source.never_falls);
}

pub returns-clause-sound : goal.returns-clause-sound
returns-clause-sound g c = record {
  good = c.in_ok-start.ensures.fails.good;
  alone = c.start.ensures.journal.bundle ∙ c.setup.ensures.opens.bundle ∙ c.requires.bundle;
  few = c.start.ensures.few c.in_ok-setup.ensures.fails.good;
}

pub returns-clause-draws : goal.returns-clause-draws
returns-clause-draws g c = record {
  balance = omega (arith, c.setup.ensures.source.balance, c.start.ensures.source.balance);
  never_falls = omega (arith, c.setup.ensures.source.never_falls, c.start.ensures.source.never_falls);
}
