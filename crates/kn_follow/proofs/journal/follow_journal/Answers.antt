use Rattle.std.proofs.Common.{◌-◌, ℕ, List, length, refl, sym, ap, ◌∙◌, subst, arith}
use Rattle.std.specs.Prelude.{Option, Err, Ok}
use Rattle.kn_core.specs.State.{RevisionState, StandsFor}
use Rattle.kn_journal.specs.declared.error.JournalError.{JournalError}
use Rattle.kn_journal.specs.declared.status.Status.{Status}
use Rattle.kn_journal.specs.Reading.{IsOver, TakesText, unread}
use Rattle.kn_teller.specs.Manner.{Manner}
use Rattle.kn_teller.specs.Run.{Run, begun, trace}
use Rattle.kn_follow.specs.Account.{account_of}
use Rattle.kn_follow.specs.Cutting.{FollowsCut}
use Rattle.kn_follow.specs.Endings.{IsBehind, IsRefusal, status_of}
use Rattle.kn_follow.specs.Following.{Follows, FollowsBehind, Opens}
use Rattle.kn_follow.proofs.Behind.{journal_behind}
use Rattle.kn_follow.proofs.Cuts.{journal_follows_cut, opening_cut}
use Rattle.kn_follow.proofs.Faults.{journal_follows}
use Rattle.kn_follow.proofs.Journals.{beyond_is, ends_left, ends_opened, journal_cut, journal_fails, journal_memory, nothing_ahead}
use Rattle.kn_follow.proofs.Statuses.{IsMemory, IsWriteFault, either, fault_of, followed_replayed, never_memory, never_ok, no_write_fault, rose_on}
use Rattle.kn_follow.proofs.Runs.{same_start}
use Rattle.kn_follow.proofs.journal.follow_journal.Goals as goal

pub returns-in-Err-clause-report : goal.returns-in-Err-clause-report
returns-in-Err-clause-report g c =
    journal_memory (account_of (g.F.Form.writes c.args.form.now)) (g.S.Source.left c.args.source.now) (g.S.Source.left c.args.source.now) (g.S.Source.given c.args.source.now - g.S.Source.given c.args.source.now) (g.O.Sink.held c.args.out.now)

pub returns-in-Err-clause-ended : goal.returns-in-Err-clause-ended
returns-in-Err-clause-ended g c is = absurd (subst IsMemory is tt)

pub returns-in-Err-clause-rest : goal.returns-in-Err-clause-rest
returns-in-Err-clause-rest g c refused = absurd refused

pub returns-in-Err-clause-cut : goal.returns-in-Err-clause-cut
returns-in-Err-clause-cut g c is = absurd (subst IsMemory is tt)

pub returns-in-Err-clause-memory : goal.returns-in-Err-clause-memory
returns-in-Err-clause-memory g c is = refl

pub returns-in-Err-clause-read_fault : goal.returns-in-Err-clause-read_fault
returns-in-Err-clause-read_fault g c is = absurd (subst IsMemory is tt)

pub returns-in-Err-clause-write_fault : goal.returns-in-Err-clause-write_fault
returns-in-Err-clause-write_fault g c is = absurd (subst IsMemory is tt)

pub returns-in-Err-clause-never_falls : goal.returns-in-Err-clause-never_falls
returns-in-Err-clause-never_falls g c = omega arith

pub returns-in-Err-clause-out_never_falls : goal.returns-in-Err-clause-out_never_falls
returns-in-Err-clause-out_never_falls g c = omega arith

pub open-requires-clause-good : goal.open-requires-clause-good
open-requires-clause-good g c = c.in-Ok.ensures.failed

pub open-requires-clause-number : goal.open-requires-clause-number
open-requires-clause-number g c = c.in-Ok.ensures.number

pub open-requires-clause-bundle : goal.open-requires-clause-bundle
open-requires-clause-bundle g c = c.in-Ok.ensures.bundle

pub open-requires-clause-begun : goal.open-requires-clause-begun
open-requires-clause-begun g c = c.in-Ok.ensures.begun

pub returns-in-Err-open-clause-report : goal.returns-in-Err-open-clause-report
returns-in-Err-open-clause-report g c =
    let start = nothing_ahead c.in-Ok.reader.input.ahead (g.S.Source.left c.args.source.now) c.in-Ok.ensures.ahead in
    let opens = subst (λ (x : Option (List ℕ)). Opens x (unread c.open.new.reader.input (g.S.Source.left c.open.new.source)) c.open.new.reader.version c.open.new.reader.number (Err c.in-Err-open.error)) start c.in-Err-open.ensures.opens in
    rw c.status_of.ensures.value (journal_fails (account_of (g.F.Form.writes c.args.form.now)) (g.S.Source.left c.args.source.now) (g.S.Source.left c.open.new.source) c.open.new.reader.input.ahead (g.S.Source.given c.open.new.source - g.S.Source.given c.args.source.now) c.open.new.reader.version c.open.new.reader.number c.in-Err-open.error (g.O.Sink.held c.args.out.now) opens
    (λ is. beyond_is c.open.new.reader.input _ (omega (arith, c.open.ensures.draws.balance, c.in-Ok.ensures.taken, ap length c.in-Ok.ensures.ahead)) (c.open.ensures.broken (c.in-Err-open.is ∙ ap (λ (e : JournalError). Err e) is)).spent))

pub returns-in-Err-open-clause-replayed : goal.returns-in-Err-open-clause-replayed
returns-in-Err-open-clause-replayed g c = c.status_of.ensures.replayed

pub returns-in-Err-open-clause-ended : goal.returns-in-Err-open-clause-ended
returns-in-Err-open-clause-ended g c is = absurd (never_ok c.in-Err-open.error (sym c.status_of.ensures.value ∙ is))

pub returns-in-Err-open-clause-rest : goal.returns-in-Err-open-clause-rest
returns-in-Err-open-clause-rest g c refused =
    let new = unread c.open.new.reader.input (g.S.Source.left c.open.new.source) in
    let start = nothing_ahead c.in-Ok.reader.input.ahead (g.S.Source.left c.args.source.now) c.in-Ok.ensures.ahead in
    let is = c.status_of.ensures.value in
    let behind = subst (λ (x : Option (List ℕ)). IsBehind (status_of c.in-Err-open.error) x new) start (c.in-Err-open.ensures.rest (subst IsRefusal is refused)) in
    (c.open.new.reader.input.ahead, c.ahead_len-few.ensures.most, subst (λ (x : Status). IsBehind x (g.S.Source.left c.args.source.now) new) (sym is) behind)

pub returns-in-Err-open-clause-cut : goal.returns-in-Err-open-clause-cut
returns-in-Err-open-clause-cut g c is = absurd (no_write_fault c.in-Err-open.error (sym c.status_of.ensures.value ∙ is))

pub returns-in-Err-open-clause-memory : goal.returns-in-Err-open-clause-memory
returns-in-Err-open-clause-memory g c is = refl

pub returns-in-Err-open-clause-read_fault : goal.returns-in-Err-open-clause-read_fault
returns-in-Err-open-clause-read_fault g c is =
    let fault = fault_of c.in-Err-open.error (sym c.status_of.ensures.value ∙ is) in
    either (c.open.ensures.broken (c.in-Err-open.is ∙ ap (λ (e : JournalError). Err e) fault)).fault (λ rose. rose)
    (λ all. omega (arith, all, c.open.ensures.draws.balance, c.in-Ok.ensures.taken, ap length c.in-Ok.ensures.ahead))

pub returns-in-Err-open-clause-write_fault : goal.returns-in-Err-open-clause-write_fault
returns-in-Err-open-clause-write_fault g c is = absurd (no_write_fault c.in-Err-open.error (sym c.status_of.ensures.value ∙ is))

pub returns-in-Err-open-clause-never_falls : goal.returns-in-Err-open-clause-never_falls
returns-in-Err-open-clause-never_falls g c = c.open.ensures.draws.never_falls

pub returns-in-Err-open-clause-out_never_falls : goal.returns-in-Err-open-clause-out_never_falls
returns-in-Err-open-clause-out_never_falls g c = omega arith

pub make-requires : goal.make-requires
make-requires g c = record { times = c.in-Ok-open.ensures.most }

pub returns-in-Err-make-clause-report : goal.returns-in-Err-make-clause-report
returns-in-Err-make-clause-report g c =
    journal_memory (account_of (g.F.Form.writes c.args.form.now)) (g.S.Source.left c.args.source.now) (g.S.Source.left c.open.new.source) (g.S.Source.given c.open.new.source - g.S.Source.given c.args.source.now) (g.O.Sink.held c.args.out.now)

pub returns-in-Err-make-clause-ended : goal.returns-in-Err-make-clause-ended
returns-in-Err-make-clause-ended g c is = absurd (subst IsMemory is tt)

pub returns-in-Err-make-clause-rest : goal.returns-in-Err-make-clause-rest
returns-in-Err-make-clause-rest g c refused = absurd refused

pub returns-in-Err-make-clause-cut : goal.returns-in-Err-make-clause-cut
returns-in-Err-make-clause-cut g c is = absurd (subst IsMemory is tt)

pub returns-in-Err-make-clause-memory : goal.returns-in-Err-make-clause-memory
returns-in-Err-make-clause-memory g c is = refl

pub returns-in-Err-make-clause-read_fault : goal.returns-in-Err-make-clause-read_fault
returns-in-Err-make-clause-read_fault g c is = absurd (subst IsMemory is tt)

pub returns-in-Err-make-clause-write_fault : goal.returns-in-Err-make-clause-write_fault
returns-in-Err-make-clause-write_fault g c is = absurd (subst IsMemory is tt)

pub returns-in-Err-make-clause-never_falls : goal.returns-in-Err-make-clause-never_falls
returns-in-Err-make-clause-never_falls g c = c.open.ensures.draws.never_falls

pub returns-in-Err-make-clause-out_never_falls : goal.returns-in-Err-make-clause-out_never_falls
returns-in-Err-make-clause-out_never_falls g c = omega arith

pub new-requires-2 : goal.new-requires-2
new-requires-2 g c = record { times = c.in-Ok-open.ensures.most }

pub returns-in-Err-new-clause-report : goal.returns-in-Err-new-clause-report
returns-in-Err-new-clause-report g c =
    journal_memory (account_of (g.F.Form.writes c.args.form.now)) (g.S.Source.left c.args.source.now) (g.S.Source.left c.open.new.source) (g.S.Source.given c.open.new.source - g.S.Source.given c.args.source.now) (g.O.Sink.held c.args.out.now)

pub returns-in-Err-new-clause-ended : goal.returns-in-Err-new-clause-ended
returns-in-Err-new-clause-ended g c is = absurd (subst IsMemory is tt)

pub returns-in-Err-new-clause-rest : goal.returns-in-Err-new-clause-rest
returns-in-Err-new-clause-rest g c refused = absurd refused

pub returns-in-Err-new-clause-cut : goal.returns-in-Err-new-clause-cut
returns-in-Err-new-clause-cut g c is = absurd (subst IsMemory is tt)

pub returns-in-Err-new-clause-memory : goal.returns-in-Err-new-clause-memory
returns-in-Err-new-clause-memory g c is = refl

pub returns-in-Err-new-clause-read_fault : goal.returns-in-Err-new-clause-read_fault
returns-in-Err-new-clause-read_fault g c is = absurd (subst IsMemory is tt)

pub returns-in-Err-new-clause-write_fault : goal.returns-in-Err-new-clause-write_fault
returns-in-Err-new-clause-write_fault g c is = absurd (subst IsMemory is tt)

pub returns-in-Err-new-clause-never_falls : goal.returns-in-Err-new-clause-never_falls
returns-in-Err-new-clause-never_falls g c = c.open.ensures.draws.never_falls

pub returns-in-Err-new-clause-out_never_falls : goal.returns-in-Err-new-clause-out_never_falls
returns-in-Err-new-clause-out_never_falls g c = omega arith

pub tell_start-requires : goal.tell_start-requires
tell_start-requires g c = record { few = c.in-Ok-make.ensures.few }

pub returns-in-Err-tell_start-clause-report : goal.returns-in-Err-tell_start-clause-report
returns-in-Err-tell_start-clause-report g c =
    let start = nothing_ahead c.in-Ok.reader.input.ahead (g.S.Source.left c.args.source.now) c.in-Ok.ensures.ahead in
    let opens = subst (λ (x : Option (List ℕ)). Opens x (unread c.open.new.reader.input (g.S.Source.left c.open.new.source)) c.open.new.reader.version c.open.new.reader.number (Ok c.in-Ok-open.parts)) start c.in-Ok-open.ensures.opens in
    let w = g.F.Form.writes c.args.form.now in
    let b = begun c.in-Ok-open.parts.0.spec c.in-Ok-open.parts.1 in
    let some = rw (c.in-Ok-new.ensures.waiting, c.in-Ok-make.ensures.manner) at c.in-Err-tell_start.ensures.err b c.in-Ok-make.ensures.awaits c.in-Ok-new.ensures.opened in
    journal_cut c.adding_laws.ensures.laws w (g.S.Source.left c.args.source.now) (unread c.open.new.reader.input (g.S.Source.left c.open.new.source)) (g.S.Source.left c.open.new.source) (g.S.Source.given c.open.new.source - g.S.Source.given c.args.source.now) c.open.new.reader.version c.in-Ok-open.parts.0 c.in-Ok-open.parts.1 c.open.new.reader.number (g.O.Sink.held c.args.out.now) (g.O.Sink.held c.tell_start.new.out) opens some

pub returns-in-Err-tell_start-clause-ended : goal.returns-in-Err-tell_start-clause-ended
returns-in-Err-tell_start-clause-ended g c is = absurd (subst IsWriteFault is tt)

pub returns-in-Err-tell_start-clause-rest : goal.returns-in-Err-tell_start-clause-rest
returns-in-Err-tell_start-clause-rest g c refused = absurd refused

pub returns-in-Err-tell_start-clause-cut : goal.returns-in-Err-tell_start-clause-cut
returns-in-Err-tell_start-clause-cut g c is =
    let start = nothing_ahead c.in-Ok.reader.input.ahead (g.S.Source.left c.args.source.now) c.in-Ok.ensures.ahead in
    let opens = subst (λ (x : Option (List ℕ)). Opens x (unread c.open.new.reader.input (g.S.Source.left c.open.new.source)) c.open.new.reader.version c.open.new.reader.number (Ok c.in-Ok-open.parts)) start c.in-Ok-open.ensures.opens in (
      c.open.new.reader.input.ahead,
      c.ahead_len-few-in-Err-tell_start.ensures.most,
      opening_cut (account_of (g.F.Form.writes c.args.form.now)) (g.S.Source.left c.args.source.now) (unread c.open.new.reader.input (g.S.Source.left c.open.new.source)) c.open.new.reader.version c.in-Ok-open.parts.0 c.in-Ok-open.parts.1 c.open.new.reader.number _ (g.O.Sink.held c.args.out.now) (g.O.Sink.held c.tell_start.new.out) c.openings_are_whole.ensures.opening c.openings_are_whole.ensures.start opens (c.in-Err-tell_start.ensures.err (begun c.in-Ok-open.parts.0.spec c.in-Ok-open.parts.1) c.in-Ok-make.ensures.awaits c.in-Ok-new.ensures.opened),
    )

pub returns-in-Err-tell_start-clause-memory : goal.returns-in-Err-tell_start-clause-memory
returns-in-Err-tell_start-clause-memory g c is = absurd (subst IsWriteFault is tt)

pub returns-in-Err-tell_start-clause-read_fault : goal.returns-in-Err-tell_start-clause-read_fault
returns-in-Err-tell_start-clause-read_fault g c is = absurd (subst IsWriteFault is tt)

pub returns-in-Err-tell_start-clause-write_fault : goal.returns-in-Err-tell_start-clause-write_fault
returns-in-Err-tell_start-clause-write_fault g c is = c.in-Err-tell_start.ensures.cause.failed

pub returns-in-Err-tell_start-clause-never_falls : goal.returns-in-Err-tell_start-clause-never_falls
returns-in-Err-tell_start-clause-never_falls g c = c.open.ensures.draws.never_falls

pub returns-in-Err-tell_start-clause-out_never_falls : goal.returns-in-Err-tell_start-clause-out_never_falls
returns-in-Err-tell_start-clause-out_never_falls g c = c.tell_start.ensures.cause.never_falls

pub follow-status-requires-clause-ready : goal.follow-status-requires-clause-ready
follow-status-requires-clause-ready g c =
    let clock = ap (λ (x : RevisionState). x.clock) c.tell_start.ensures.revision ∙ c.in-Ok-new.ensures.opened.clock in
    record {
      sound = c.in-Ok-open.ensures.sound;
      last = c.in-Ok-open.ensures.start ∙ sym clock;
      clock = omega (arith, clock, c.in-Ok-open.ensures.most);
      events = ap (λ (x : RevisionState). x.events) c.tell_start.ensures.revision ∙ c.in-Ok-new.ensures.events;
    }

pub follow-status-requires-clause-load : goal.follow-status-requires-clause-load
follow-status-requires-clause-load g c = c.in-Ok-tell_start.ensures.few

pub follow-status-requires-clause-stands : goal.follow-status-requires-clause-stands
follow-status-requires-clause-stands g c =
    let b = begun c.in-Ok-open.parts.0.spec c.in-Ok-open.parts.1 in
    let opened = c.in-Ok-new.ensures.opened in
    let same = same_start c.tell_start.new.self.revision c.in-Ok-new.follower.revision c.in-Ok-open.parts.0.spec c.in-Ok-open.parts.1 c.tell_start.ensures.revision opened.spec opened.clock in
    let stands = subst (λ (x : RevisionState). StandsFor x (trace b)) (sym c.tell_start.ensures.revision) opened.stands in
    subst (λ (r : Run). StandsFor c.tell_start.new.self.revision (trace r)) (sym same) stands

pub follow-status-requires-clause-knows : goal.follow-status-requires-clause-knows
follow-status-requires-clause-knows g c =
    let b = begun c.in-Ok-open.parts.0.spec c.in-Ok-open.parts.1 in
    let opened = c.in-Ok-new.ensures.opened in
    let same = same_start c.tell_start.new.self.revision c.in-Ok-new.follower.revision c.in-Ok-open.parts.0.spec c.in-Ok-open.parts.1 c.tell_start.ensures.revision opened.spec opened.clock in
    subst (λ (r : Run). g.T.Teller.knows c.tell_start.new.teller r) (sym same) (c.in-Ok-tell_start.ensures.knows b c.in-Ok-make.ensures.awaits opened)

pub returns-clause-report : goal.returns-clause-report
returns-clause-report g c =
    let start = nothing_ahead c.in-Ok.reader.input.ahead (g.S.Source.left c.args.source.now) c.in-Ok.ensures.ahead in
    let opens = subst (λ (x : Option (List ℕ)). Opens x (unread c.open.new.reader.input (g.S.Source.left c.open.new.source)) c.open.new.reader.version c.open.new.reader.number (Ok c.in-Ok-open.parts)) start c.in-Ok-open.ensures.opens in
    let w = g.F.Form.writes c.args.form.now in
    let b = begun c.in-Ok-open.parts.0.spec c.in-Ok-open.parts.1 in
    let left = unread c.open.new.reader.input (g.S.Source.left c.open.new.source) in
    let rest = unread c.follow-status.new.reader.input (g.S.Source.left c.follow-status.new.source) in
    let text = subst (λ (x : Option (List ℕ)). TakesText c.open.new.reader.cut x left) start c.in-Ok-open.ensures.text in
    let opened = c.in-Ok-new.ensures.opened in
    let same = same_start c.tell_start.new.self.revision c.in-Ok-new.follower.revision c.in-Ok-open.parts.0.spec c.in-Ok-open.parts.1 c.tell_start.ensures.revision opened.spec opened.clock in
    let manner = c.tell_start.ensures.manner ∙ c.in-Ok-make.ensures.manner in
    let one = subst (λ (r : Run). IsOver c.open.new.reader.cut left → Follows c.open.new.reader.cut c.open.new.reader.version (g.T.Teller.manner c.tell_start.new.teller) r c.open.new.reader.last c.open.new.reader.number left rest c.tell_start.new.self.waiting (g.O.Sink.held c.tell_start.new.out) (g.O.Sink.held c.follow-status.new.out) c.follow-status.result) same c.follow-status.ensures.follows in
    let two = subst (λ (m : Manner). IsOver c.open.new.reader.cut left → Follows c.open.new.reader.cut c.open.new.reader.version m b c.open.new.reader.last c.open.new.reader.number left rest c.tell_start.new.self.waiting (g.O.Sink.held c.tell_start.new.out) (g.O.Sink.held c.follow-status.new.out) c.follow-status.result) manner one in
    let follows = subst (λ (n : ℕ). IsOver c.open.new.reader.cut left → Follows c.open.new.reader.cut c.open.new.reader.version w b n c.open.new.reader.number left rest c.tell_start.new.self.waiting (g.O.Sink.held c.tell_start.new.out) (g.O.Sink.held c.follow-status.new.out) c.follow-status.result) c.in-Ok-open.ensures.start two in
    let adds = rw (c.in-Ok-new.ensures.waiting, c.in-Ok-make.ensures.manner) at c.in-Ok-tell_start.ensures.ok b c.in-Ok-make.ensures.awaits opened in
    journal_follows c.adding_laws.ensures.laws c.text_laws.ensures.laws w (g.S.Source.left c.args.source.now) left (g.S.Source.left c.follow-status.new.source) c.open.new.reader.cut c.follow-status.new.reader.input.ahead (g.S.Source.given c.follow-status.new.source - g.S.Source.given c.args.source.now) c.open.new.reader.version c.in-Ok-open.parts.0 c.in-Ok-open.parts.1 c.open.new.reader.number (g.O.Sink.held c.args.out.now) (g.O.Sink.held c.tell_start.new.out) (g.O.Sink.held c.follow-status.new.out) c.tell_start.new.self.waiting c.follow-status.result c.openings_are_whole.ensures.opening c.openings_are_whole.ensures.start opens text adds follows c.follow-status.ensures.followed
    (λ is. beyond_is c.follow-status.new.reader.input _ (omega (arith, c.open.ensures.draws.balance, c.follow-status.ensures.draws.balance, c.in-Ok.ensures.taken, ap length c.in-Ok.ensures.ahead)) (c.follow-status.ensures.broken is).spent)

pub returns-clause-replayed : goal.returns-clause-replayed
returns-clause-replayed g c = followed_replayed c.follow-status.result c.follow-status.ensures.followed

pub returns-clause-ended : goal.returns-clause-ended
returns-clause-ended g c is =
    let start = nothing_ahead c.in-Ok.reader.input.ahead (g.S.Source.left c.args.source.now) c.in-Ok.ensures.ahead in
    let opens = subst (λ (x : Option (List ℕ)). Opens x (unread c.open.new.reader.input (g.S.Source.left c.open.new.source)) c.open.new.reader.version c.open.new.reader.number (Ok c.in-Ok-open.parts)) start c.in-Ok-open.ensures.opens in
    ends_opened (g.S.Source.left c.args.source.now) (unread c.open.new.reader.input (g.S.Source.left c.open.new.source)) (g.S.Source.left c.follow-status.new.source) c.open.new.reader.version c.open.new.reader.number c.in-Ok-open.parts opens
    (ends_left (unread c.open.new.reader.input (g.S.Source.left c.open.new.source)) (g.S.Source.left c.follow-status.new.source) c.follow-status.new.reader.input.ahead (c.follow-status.ensures.ended is))

pub returns-clause-rest : goal.returns-clause-rest
returns-clause-rest g c refused =
    let start = nothing_ahead c.in-Ok.reader.input.ahead (g.S.Source.left c.args.source.now) c.in-Ok.ensures.ahead in
    let opens = subst (λ (x : Option (List ℕ)). Opens x (unread c.open.new.reader.input (g.S.Source.left c.open.new.source)) c.open.new.reader.version c.open.new.reader.number (Ok c.in-Ok-open.parts)) start c.in-Ok-open.ensures.opens in
    let left = (unread c.open.new.reader.input (g.S.Source.left c.open.new.source)) in
    let rest = unread c.follow-status.new.reader.input (g.S.Source.left c.follow-status.new.source) in
    let follows = subst (λ (n : ℕ). FollowsBehind c.open.new.reader.version n c.open.new.reader.number c.follow-status.result left rest) c.in-Ok-open.ensures.start (c.follow-status.ensures.rest refused) in (
      c.follow-status.new.reader.input.ahead,
      c.ahead_len-few-2.ensures.most,
      journal_behind (g.S.Source.left c.args.source.now) left rest c.open.new.reader.version c.in-Ok-open.parts.0 c.in-Ok-open.parts.1 c.open.new.reader.number c.follow-status.result c.openings_are_whole.ensures.opening c.openings_are_whole.ensures.start opens follows,
    )

pub returns-clause-cut : goal.returns-clause-cut
returns-clause-cut g c is =
    let start = nothing_ahead c.in-Ok.reader.input.ahead (g.S.Source.left c.args.source.now) c.in-Ok.ensures.ahead in
    let opens = subst (λ (x : Option (List ℕ)). Opens x (unread c.open.new.reader.input (g.S.Source.left c.open.new.source)) c.open.new.reader.version c.open.new.reader.number (Ok c.in-Ok-open.parts)) start c.in-Ok-open.ensures.opens in
    let w = g.F.Form.writes c.args.form.now in
    let b = begun c.in-Ok-open.parts.0.spec c.in-Ok-open.parts.1 in
    let left = unread c.open.new.reader.input (g.S.Source.left c.open.new.source) in
    let rest = unread c.follow-status.new.reader.input (g.S.Source.left c.follow-status.new.source) in
    let text = subst (λ (x : Option (List ℕ)). TakesText c.open.new.reader.cut x left) start c.in-Ok-open.ensures.text in
    let opened = c.in-Ok-new.ensures.opened in
    let same = same_start c.tell_start.new.self.revision c.in-Ok-new.follower.revision c.in-Ok-open.parts.0.spec c.in-Ok-open.parts.1 c.tell_start.ensures.revision opened.spec opened.clock in
    let manner = c.tell_start.ensures.manner ∙ c.in-Ok-make.ensures.manner in
    let one = subst (λ (r : Run). IsOver c.open.new.reader.cut left → FollowsCut c.open.new.reader.version (g.T.Teller.manner c.tell_start.new.teller) r c.open.new.reader.last c.open.new.reader.number left rest c.tell_start.new.self.waiting (g.O.Sink.held c.tell_start.new.out) (g.O.Sink.held c.follow-status.new.out)) same (λ over. c.follow-status.ensures.cut over is) in
    let two = subst (λ (m : Manner). IsOver c.open.new.reader.cut left → FollowsCut c.open.new.reader.version m b c.open.new.reader.last c.open.new.reader.number left rest c.tell_start.new.self.waiting (g.O.Sink.held c.tell_start.new.out) (g.O.Sink.held c.follow-status.new.out)) manner one in
    let cut = subst (λ (n : ℕ). IsOver c.open.new.reader.cut left → FollowsCut c.open.new.reader.version w b n c.open.new.reader.number left rest c.tell_start.new.self.waiting (g.O.Sink.held c.tell_start.new.out) (g.O.Sink.held c.follow-status.new.out)) c.in-Ok-open.ensures.start two in
    let adds = rw (c.in-Ok-new.ensures.waiting, c.in-Ok-make.ensures.manner) at c.in-Ok-tell_start.ensures.ok b c.in-Ok-make.ensures.awaits opened in (
      c.follow-status.new.reader.input.ahead,
      c.ahead_len-few-2.ensures.most,
      journal_follows_cut w (g.S.Source.left c.args.source.now) left rest c.open.new.reader.cut c.open.new.reader.version c.in-Ok-open.parts.0 c.in-Ok-open.parts.1 c.open.new.reader.number c.tell_start.new.self.waiting (g.O.Sink.held c.args.out.now) (g.O.Sink.held c.tell_start.new.out) (g.O.Sink.held c.follow-status.new.out) c.openings_are_whole.ensures.opening c.openings_are_whole.ensures.start opens text adds cut,
    )

pub returns-clause-memory : goal.returns-clause-memory
returns-clause-memory g c is = absurd (never_memory c.follow-status.result c.follow-status.ensures.followed is)

pub returns-clause-read_fault : goal.returns-clause-read_fault
returns-clause-read_fault g c is =
    either (c.follow-status.ensures.broken is).fault (rose_on _ _ _ c.open.ensures.draws.never_falls)
    (λ all. omega (arith, all, c.open.ensures.draws.balance, c.follow-status.ensures.draws.balance, c.in-Ok.ensures.taken, ap length c.in-Ok.ensures.ahead))

pub returns-clause-write_fault : goal.returns-clause-write_fault
returns-clause-write_fault g c is =
    rose_on _ _ _ c.tell_start.ensures.cause.never_falls (c.follow-status.ensures.cause.failed is)

pub returns-clause-never_falls : goal.returns-clause-never_falls
returns-clause-never_falls g c = omega (arith, c.open.ensures.draws.never_falls, c.follow-status.ensures.draws.never_falls)

pub returns-clause-out_never_falls : goal.returns-clause-out_never_falls
returns-clause-out_never_falls g c =
    omega (arith, c.tell_start.ensures.cause.never_falls, c.follow-status.ensures.cause.never_falls)

pub same-spec : goal.same-spec
same-spec g c = refl
