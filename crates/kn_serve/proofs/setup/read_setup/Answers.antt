use Rattle.std.proofs.Common.{ℕ, Option, List, subst, length, ap, ◌∙◌, arith}
use Rattle.std.proofs.lemmas.Result.{err_from_is_err_and}
use Rattle.std.specs.Prelude.{◌≡◌, Err, Ok, Result}
use Rattle.kn_preamble.specs.declared.first.FirstLine.TheVariants.{Journal as JournalLine}
use Rattle.kn_journal.specs.declared.error.JournalError.{JournalError}
use Rattle.kn_journal.specs.declared.error.JournalError.TheVariants as error
use Rattle.kn_journal.specs.declared.journal.Opening.{Opening}
use Rattle.kn_journal.specs.Journal.{opening_part}
use Rattle.kn_journal.specs.Reading.{unread}
use Rattle.kn_journal.specs.Telling.{Gives, Refuses}
use Rattle.kn_serve.proofs.SetupFacts.{either, rose_on, given_from_start, nothing_ahead, memory_said, opening_refused, end_refused, read_out, refused_from_start, setup_said}
use Rattle.kn_serve.proofs.setup.read_setup.Goals as goal

-- the error, or this one
abbrev error_in : {T : Type 0} → JournalError → Result T JournalError → JournalError
error_in other (Ok x) = other
error_in other (Err e) = e

pub returns-in-Err-clause-says : goal.returns-in-Err-clause-says
returns-in-Err-clause-says g c = memory_said (g.S.Source.left c.args.source.now)

pub returns-in_err-setup-clause-says : goal.returns-in_err-setup-clause-says
returns-in_err-setup-clause-says g c =
    let start = nothing_ahead c.in-Ok.reader.input.ahead (g.S.Source.left c.args.source.now) c.in-Ok.ensures.ahead in
    let tells = refused_from_start c.in-Ok.reader c.in_err-setup.field-0.0 (unread c.in-Ok.reader.input (g.S.Source.left c.args.source.now)) c.in-Ok.ensures.begun c.in-Ok.ensures.number (c.in_err-setup.ensures.reads.tells c.in-Ok.ensures.failed) in
    let p = err_from_is_err_and c.from_residual.result c.from_residual.ensures.1 in
    rw (p.1, p.2)
    (opening_refused (g.S.Source.left c.args.source.now) c.in_err-setup.field-0.0 (subst (Refuses (opening_part JournalLine 0) c.in_err-setup.field-0.0) start tells))

pub returns-in_err-setup-clause-fault : goal.returns-in_err-setup-clause-fault
returns-in_err-setup-clause-fault g c is =
    let e = c.in_err-setup.field-0.0 in
    let p = err_from_is_err_and c.from_residual.result c.from_residual.ensures.1 in
    let told = p.1 in
    let made : p.0 ≡ e = p.2 in
    let same : e ≡ error.ReadFault = cc in
    let fault = c.in_err-setup.was ∙ ap (λ (e : JournalError). Err e) same in
    either (c.setup.ensures.source.fault c.in-Ok.ensures.failed fault) (λ rose. rose)
    (λ all. omega (arith, all, c.setup.ensures.source.balance, c.in-Ok.ensures.taken, ap length c.in-Ok.ensures.ahead))

pub returns-in-Ok-finish_setup-clause-says : goal.returns-in-Ok-finish_setup-clause-says
returns-in-Ok-finish_setup-clause-says g c =
    let old = g.S.Source.left c.args.source.now in
    let mid = unread c.setup.new.self.input (g.S.Source.left c.setup.new.source) in
    let new = unread c.finish_setup.new.self.input (g.S.Source.left c.finish_setup.new.source) in
    let opening : Opening = record { version = c.setup.new.self.version; setup = c.in_ok-setup.setup } in
    let start = nothing_ahead c.in-Ok.reader.input.ahead old c.in-Ok.ensures.ahead in
    let first = given_from_start c.in-Ok.reader opening c.setup.new.self.number (unread c.in-Ok.reader.input old) mid c.in-Ok.ensures.begun c.in-Ok.ensures.number (c.in_ok-setup.ensures.reads.tells c.in-Ok.ensures.failed) in
    setup_said old mid new c.setup.new.self.version c.in_ok-setup.setup c.setup.new.self.number c.finish_setup.new.self.number
    (subst (λ (x : Option (List ℕ)). Gives (opening_part JournalLine 0) opening c.setup.new.self.number x mid) start first)
    (c.in-Ok-finish_setup.ensures.reads.tells c.in_ok-setup.ensures.fails.good)

pub returns-in-Ok-finish_setup-clause-whole : goal.returns-in-Ok-finish_setup-clause-whole
returns-in-Ok-finish_setup-clause-whole g c =
    let old = g.S.Source.left c.args.source.now in
    let mid = unread c.setup.new.self.input (g.S.Source.left c.setup.new.source) in
    let opening : Opening = record { version = c.setup.new.self.version; setup = c.in_ok-setup.setup } in
    let start = nothing_ahead c.in-Ok.reader.input.ahead old c.in-Ok.ensures.ahead in
    let first = given_from_start c.in-Ok.reader opening c.setup.new.self.number (unread c.in-Ok.reader.input old) mid c.in-Ok.ensures.begun c.in-Ok.ensures.number (c.in_ok-setup.ensures.reads.tells c.in-Ok.ensures.failed) in
    read_out old mid c.finish_setup.new.self.input.ahead (g.S.Source.left c.finish_setup.new.source) opening c.setup.new.self.number c.finish_setup.new.self.number
    (subst (λ (x : Option (List ℕ)). Gives (opening_part JournalLine 0) opening c.setup.new.self.number x mid) start first)
    (c.in-Ok-finish_setup.ensures.reads.tells c.in_ok-setup.ensures.fails.good)

pub returns-clause-says : goal.returns-clause-says
returns-clause-says g c =
    let old = g.S.Source.left c.args.source.now in
    let mid = unread c.setup.new.self.input (g.S.Source.left c.setup.new.source) in
    let opening : Opening = record { version = c.setup.new.self.version; setup = c.in_ok-setup.setup } in
    let start = nothing_ahead c.in-Ok.reader.input.ahead old c.in-Ok.ensures.ahead in
    let first = given_from_start c.in-Ok.reader opening c.setup.new.self.number (unread c.in-Ok.reader.input old) mid c.in-Ok.ensures.begun c.in-Ok.ensures.number (c.in_ok-setup.ensures.reads.tells c.in-Ok.ensures.failed) in
    end_refused old mid opening c.setup.new.self.number c.in-Err-finish_setup.error
    (subst (λ (x : Option (List ℕ)). Gives (opening_part JournalLine 0) opening c.setup.new.self.number x mid) start first)
    (c.in-Err-finish_setup.ensures.reads.tells c.in_ok-setup.ensures.fails.good)

pub returns-clause-fault : goal.returns-clause-fault
returns-clause-fault g c is =
    either (c.finish_setup.ensures.source.fault c.in_ok-setup.ensures.fails.good (c.in-Err-finish_setup.is ∙ ap (λ (e : JournalError). Err e) (ap (error_in error.Memory) is))) (rose_on _ _ _ c.setup.ensures.source.never_falls)
    (λ all. omega (arith, all, c.setup.ensures.source.balance, c.finish_setup.ensures.source.balance, c.in-Ok.ensures.taken, ap length c.in-Ok.ensures.ahead))
