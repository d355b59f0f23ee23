use Rattle.std.proofs.Common.{◌+◌, Bool, ℕ, List, length, sym, ap, ◌∙◌, subst, arith, inl, inr}
use Rattle.std.specs.Prelude.{Option, Err, Some}
use Rattle.std.specs.Io.KnownBytes.{Appends}
use Rattle.kn_io.specs.Prefix.{AppendsPrefix}
use Rattle.kn_preamble.specs.declared.first.FirstLine.TheVariants.{Journal as JournalLine}
use Rattle.kn_journal.specs.declared.error.JournalError.{JournalError}
use Rattle.kn_journal.specs.declared.journal.Opening.{Opening}
use Rattle.kn_journal.specs.declared.status.Status.{Status}
use Rattle.kn_journal.specs.Bundle.{opening_by}
use Rattle.kn_journal.specs.Journal.{opening_part}
use Rattle.kn_journal.specs.Reading.{unread}
use Rattle.kn_journal.specs.Telling.{Gives, IsLineFault, LeavesRest, Refuses}
use Rattle.kn_follow.specs.Endings.{IsBehind, IsRefusal}
use Rattle.kn_show_settings.proofs.Shown.{front_shown, memory_shown, opening_left, refusal_shown, text_shown}
use Rattle.kn_show_settings.proofs.show.show_settings.Goals as goal

pub returns-in-Err-clause-shows : goal.returns-in-Err-clause-shows
returns-in-Err-clause-shows g c = memory_shown (g.S.Source.left c.args.source.now) (g.O.Sink.held c.args.out.now)

-- ---- the setup was refused

pub returns-in-Err-setup-clause-shows : goal.returns-in-Err-setup-clause-shows
returns-in-Err-setup-clause-shows g c =
    let left = g.S.Source.left c.args.source.now in
    let start = c.call_laws.ensures.laws.fresh c.in-Ok.reader.input left c.in-Ok.ensures.ahead in
    let refuses = subst (λ (n : ℕ). Refuses (opening_part JournalLine n) c.in-Err-setup.error (unread c.in-Ok.reader.input left)) c.in-Ok.ensures.number
    (subst (λ (b : Bool). Refuses (opening_by b c.in-Ok.reader.version c.in-Ok.reader.number) c.in-Err-setup.error (unread c.in-Ok.reader.input left)) c.in-Ok.ensures.begun (c.in-Err-setup.ensures.reads.tells c.in-Ok.ensures.failed)) in
    rw c.status_of.ensures.value (refusal_shown left c.in-Err-setup.error (g.O.Sink.held c.args.out.now) (subst (λ (x : Option (List ℕ)). Refuses (opening_part JournalLine 0) c.in-Err-setup.error x) start refuses))

pub returns-in-Err-setup-clause-rest : goal.returns-in-Err-setup-clause-rest
returns-in-Err-setup-clause-rest g c refused =
    let left = g.S.Source.left c.args.source.now in
    let new = unread c.setup.new.self.input (g.S.Source.left c.setup.new.source) in
    let e = c.in-Err-setup.error in
    let start = c.call_laws.ensures.laws.fresh c.in-Ok.reader.input left c.in-Ok.ensures.ahead in
    let rest = subst (λ (n : ℕ). IsLineFault e → LeavesRest (opening_part JournalLine n) n (Some (n + 1)) e (unread c.in-Ok.reader.input left) new) c.in-Ok.ensures.number
    (subst (λ (b : Bool). IsLineFault e → LeavesRest (opening_by b c.in-Ok.reader.version c.in-Ok.reader.number) c.in-Ok.reader.number (Some (c.in-Ok.reader.number + 1)) e (unread c.in-Ok.reader.input left) new) c.in-Ok.ensures.begun (c.in-Err-setup.ensures.reads.rest c.in-Ok.ensures.failed)) in
    let behind = c.ending_laws.ensures.laws.behind_setup left new e (subst (λ (x : Option (List ℕ)). IsLineFault e → LeavesRest (opening_part JournalLine 0) 0 (Some 1) e x new) start rest) (subst IsRefusal c.status_of.ensures.value refused) in
    (c.setup.new.self.input.ahead, c.ahead_len-few.ensures.most, subst (λ (x : Status). IsBehind x left new) (sym c.status_of.ensures.value) behind)

pub returns-in-Err-setup-clause-read_fault : goal.returns-in-Err-setup-clause-read_fault
returns-in-Err-setup-clause-read_fault g c is =
    let fault = c.ending_laws.ensures.laws.read_fault c.in-Err-setup.error (sym c.status_of.ensures.value ∙ is) in
    let failed = c.in-Err-setup.is ∙ ap (λ (e : JournalError). Err e) fault in
    elim (c.setup.ensures.source.fault c.in-Ok.ensures.failed failed) [
      | inl rose ↦ inl rose
      | inr all ↦ inr (omega (arith, all, c.setup.ensures.source.balance, c.in-Ok.ensures.taken, ap length c.in-Ok.ensures.ahead))
    ]

pub returns-in-Err-setup-clause-write_fault : goal.returns-in-Err-setup-clause-write_fault
returns-in-Err-setup-clause-write_fault g c is = absurd (c.ending_laws.ensures.laws.never_write_fault c.in-Err-setup.error (sym c.status_of.ensures.value ∙ is))

-- ---- its settings were written, or some first bytes of them

pub returns-in-Ok-put_all-clause-shows : goal.returns-in-Ok-put_all-clause-shows
returns-in-Ok-put_all-clause-shows g c =
    let left = g.S.Source.left c.args.source.now in
    let new = unread c.setup.new.self.input (g.S.Source.left c.setup.new.source) in
    let opening : Opening = record { version = c.setup.new.self.version; setup = c.in-Ok-setup.setup } in
    let n = c.setup.new.self.number in
    let start = c.call_laws.ensures.laws.fresh c.in-Ok.reader.input left c.in-Ok.ensures.ahead in
    let gives = subst (λ (m : ℕ). Gives (opening_part JournalLine m) opening n (unread c.in-Ok.reader.input left) new) c.in-Ok.ensures.number
    (subst (λ (b : Bool). Gives (opening_by b c.in-Ok.reader.version c.in-Ok.reader.number) opening n (unread c.in-Ok.reader.input left) new) c.in-Ok.ensures.begun (c.in-Ok-setup.ensures.reads.tells c.in-Ok.ensures.failed)) in
    let old = g.O.Sink.held c.args.out.now in
    let now = g.O.Sink.held c.put_all.new.out in
    let text = subst (Appends old now) (c.as_slice.ensures.value ∙ c.in-Ok-settings_text.ensures) c.in-Ok-put_all.ensures.ok in
    text_shown left new opening n old now (subst (λ (x : Option (List ℕ)). Gives (opening_part JournalLine 0) opening n x new) start gives) text

pub returns-clause-shows : goal.returns-clause-shows
returns-clause-shows g c =
    let left = g.S.Source.left c.args.source.now in
    let new = unread c.setup.new.self.input (g.S.Source.left c.setup.new.source) in
    let opening : Opening = record { version = c.setup.new.self.version; setup = c.in-Ok-setup.setup } in
    let n = c.setup.new.self.number in
    let start = c.call_laws.ensures.laws.fresh c.in-Ok.reader.input left c.in-Ok.ensures.ahead in
    let gives = subst (λ (m : ℕ). Gives (opening_part JournalLine m) opening n (unread c.in-Ok.reader.input left) new) c.in-Ok.ensures.number
    (subst (λ (b : Bool). Gives (opening_by b c.in-Ok.reader.version c.in-Ok.reader.number) opening n (unread c.in-Ok.reader.input left) new) c.in-Ok.ensures.begun (c.in-Ok-setup.ensures.reads.tells c.in-Ok.ensures.failed)) in
    let old = g.O.Sink.held c.args.out.now in
    let now = g.O.Sink.held c.put_all.new.out in
    let text = subst (AppendsPrefix old now) (c.as_slice.ensures.value ∙ c.in-Ok-settings_text.ensures) c.in-Err-put_all.ensures.err in
    front_shown left new opening n old now (subst (λ (x : Option (List ℕ)). Gives (opening_part JournalLine 0) opening n x new) start gives) text

pub returns-in-Ok-put_all-clause-left : goal.returns-in-Ok-put_all-clause-left
returns-in-Ok-put_all-clause-left g c shown =
    let left = g.S.Source.left c.args.source.now in
    let new = unread c.setup.new.self.input (g.S.Source.left c.setup.new.source) in
    let opening : Opening = record { version = c.setup.new.self.version; setup = c.in-Ok-setup.setup } in
    let n = c.setup.new.self.number in
    let start = c.call_laws.ensures.laws.fresh c.in-Ok.reader.input left c.in-Ok.ensures.ahead in
    let gives = subst (λ (m : ℕ). Gives (opening_part JournalLine m) opening n (unread c.in-Ok.reader.input left) new) c.in-Ok.ensures.number
    (subst (λ (b : Bool). Gives (opening_by b c.in-Ok.reader.version c.in-Ok.reader.number) opening n (unread c.in-Ok.reader.input left) new) c.in-Ok.ensures.begun (c.in-Ok-setup.ensures.reads.tells c.in-Ok.ensures.failed)) in
    (c.setup.new.self.input.ahead, c.ahead_len-few-2.ensures.most, opening_left left new opening n (subst (λ (x : Option (List ℕ)). Gives (opening_part JournalLine 0) opening n x new) start gives))

pub returns-clause-left : goal.returns-clause-left
returns-clause-left g c shown =
    let left = g.S.Source.left c.args.source.now in
    let new = unread c.setup.new.self.input (g.S.Source.left c.setup.new.source) in
    let opening : Opening = record { version = c.setup.new.self.version; setup = c.in-Ok-setup.setup } in
    let n = c.setup.new.self.number in
    let start = c.call_laws.ensures.laws.fresh c.in-Ok.reader.input left c.in-Ok.ensures.ahead in
    let gives = subst (λ (m : ℕ). Gives (opening_part JournalLine m) opening n (unread c.in-Ok.reader.input left) new) c.in-Ok.ensures.number
    (subst (λ (b : Bool). Gives (opening_by b c.in-Ok.reader.version c.in-Ok.reader.number) opening n (unread c.in-Ok.reader.input left) new) c.in-Ok.ensures.begun (c.in-Ok-setup.ensures.reads.tells c.in-Ok.ensures.failed)) in
    (c.setup.new.self.input.ahead, c.ahead_len-few-2.ensures.most, opening_left left new opening n (subst (λ (x : Option (List ℕ)). Gives (opening_part JournalLine 0) opening n x new) start gives))
