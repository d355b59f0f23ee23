-- From the first byte on.
use Rattle.std.proofs.Common.{◌-◌, ℕ, List, ap, sym, subst, arith}
use Rattle.std.specs.Prelude.{Err, Ok, Option, Some}
use Rattle.kn_journal.specs.declared.error.JournalError.{JournalError}
use Rattle.kn_journal.specs.Reading.{TakesText, unread}
use Rattle.kn_activators.specs.Replaying.{Opens, read_error}
use Rattle.kn_activators.specs.Sharing.{opened}
use Rattle.kn_slices.specs.Traces.{GroupState}
use Rattle.kn_activators.specs.Standing.{Stands}
use Rattle.kn_activators.proofs.Drawings.{draws_more}
use Rattle.kn_activators.proofs.Faults.{at_fault, beyond_at, rose_on}
use Rattle.kn_activators.proofs.Whole.{from_start, whole_follows, whole_memory, whole_unbegun, whole_unopened}
use Rattle.kn_activators.proofs.follow.replay_slices.Goals as goal

pub returns-in-Err-clause-report : goal.returns-in-Err-clause-report
returns-in-Err-clause-report g c = whole_memory (g.S.Source.left c.args.source.now) (g.S.Source.left c.args.source.now) (g.S.Source.given c.args.source.now - g.S.Source.given c.args.source.now) (g.O.Sink.held c.args.out.now)

pub returns-in-Err-open-clause-report : goal.returns-in-Err-open-clause-report
returns-in-Err-open-clause-report g c =
    whole_unopened (g.S.Source.left c.args.source.now) c.open.new.lines.input.ahead (g.S.Source.left c.open.new.source) (g.S.Source.given c.open.new.source - g.S.Source.given c.args.source.now) (g.O.Sink.held c.args.out.now) c.open.new.lines.number c.in-Err-open.e
    (λ fault. beyond_at (Some c.in-Err-open.e) c.in-Ok.lines.input c.open.new.lines.input c.args.source.now c.open.new.source c.in-Ok.ensures.taken c.in-Ok.ensures.ahead c.in-Err-open.ensures.source (ap (λ (e : JournalError). Some e) fault))
    (subst (λ (z : Option (List ℕ)). Opens z (unread c.open.new.lines.input (g.S.Source.left c.open.new.source)) c.open.new.lines.number (Err c.in-Err-open.e)) (from_start c.in-Ok.lines.input (g.S.Source.left c.args.source.now) c.in-Ok.ensures.ahead) c.in-Err-open.ensures.opens)

pub returns-in-Err-new-clause-report : goal.returns-in-Err-new-clause-report
returns-in-Err-new-clause-report g c = whole_memory (g.S.Source.left c.args.source.now) (g.S.Source.left c.open.new.source) (g.S.Source.given c.open.new.source - g.S.Source.given c.args.source.now) (g.O.Sink.held c.args.out.now)

pub returns-in-Err-open-2-clause-report : goal.returns-in-Err-open-2-clause-report
returns-in-Err-open-2-clause-report g c =
    let opens = subst (λ (z : Option (List ℕ)). Opens z (unread c.open.new.lines.input (g.S.Source.left c.open.new.source)) c.open.new.lines.number (Ok c.in-Ok-open.parts)) (from_start c.in-Ok.lines.input (g.S.Source.left c.args.source.now) c.in-Ok.ensures.ahead) c.in-Ok-open.ensures.opens in
    whole_unbegun c.adding_laws.ensures.laws (g.S.Source.left c.args.source.now) (unread c.open.new.lines.input (g.S.Source.left c.open.new.source)) (g.S.Source.left c.open.new.source) (g.S.Source.given c.open.new.source - g.S.Source.given c.args.source.now) c.open.new.lines.number c.in-Ok-open.parts.0 c.in-Ok-open.parts.1 (g.O.Sink.held c.args.out.now) (g.O.Sink.held c.open-2.new.out) opens
    (rw (c.in-Ok-new.ensures.waiting, c.in-Ok-new.ensures.setup, c.in-Ok-new.ensures.start) at c.in-Err-open-2.ensures.err)

pub returns-clause-report : goal.returns-clause-report
returns-clause-report g c =
    let s = c.in-Ok-open.parts.0 in
    let start = c.in-Ok-open.parts.1 in
    let opens = subst (λ (z : Option (List ℕ)). Opens z (unread c.open.new.lines.input (g.S.Source.left c.open.new.source)) c.open.new.lines.number (Ok c.in-Ok-open.parts)) (from_start c.in-Ok.lines.input (g.S.Source.left c.args.source.now) c.in-Ok.ensures.ahead) c.in-Ok-open.ensures.opens in
    let adds = rw (c.in-Ok-new.ensures.waiting, c.in-Ok-new.ensures.setup, c.in-Ok-new.ensures.start) at c.in-Ok-open-2.ensures.ok in
    let stands = subst (λ (z : GroupState). Stands z (opened s start)) (sym c.open-2.ensures.group) c.in-Ok-new.ensures.stands in
    let text = subst (λ (z : Option (List ℕ)). TakesText c.open.new.lines.cut z (unread c.open.new.lines.input (g.S.Source.left c.open.new.source))) (from_start c.in-Ok.lines.input (g.S.Source.left c.args.source.now) c.in-Ok.ensures.ahead) c.in-Ok-open.ensures.text in
    let source = draws_more c.in-Ok-open.ensures.source c.follow.ensures.source in
    whole_follows c.text_laws.ensures.laws c.adding_laws.ensures.laws c.open.new.lines.cut (g.S.Source.left c.args.source.now) (unread c.open.new.lines.input (g.S.Source.left c.open.new.source)) c.follow.new.lines.input.ahead (g.S.Source.left c.follow.new.source) (g.S.Source.given c.follow.new.source - g.S.Source.given c.args.source.now) c.open.new.lines.number s start (g.O.Sink.held c.args.out.now) (g.O.Sink.held c.open-2.new.out) (g.O.Sink.held c.follow.new.out) c.open-2.new.self.waiting c.follow.result
    opens text (λ fault. beyond_at (read_error c.follow.result) c.in-Ok.lines.input c.follow.new.lines.input c.args.source.now c.follow.new.source c.in-Ok.ensures.taken c.in-Ok.ensures.ahead source (ap read_error fault)) adds c.follow.ensures.memory (c.follow.ensures.follows (opened s start) stands)

-- ---- faults

pub returns-in-Err-open-clause-read_fault : goal.returns-in-Err-open-clause-read_fault
returns-in-Err-open-clause-read_fault g c is =
    at_fault (Some c.in-Err-open.e) c.in-Ok.lines.input c.open.new.lines.input c.args.source.now c.open.new.source c.in-Ok.ensures.taken c.in-Ok.ensures.ahead c.in-Err-open.ensures.source (ap read_error is)

pub returns-clause-read_fault : goal.returns-clause-read_fault
returns-clause-read_fault g c is =
    at_fault (read_error c.follow.result) c.in-Ok.lines.input c.follow.new.lines.input c.args.source.now c.follow.new.source c.in-Ok.ensures.taken c.in-Ok.ensures.ahead
    (draws_more c.in-Ok-open.ensures.source c.follow.ensures.source) (ap read_error is)

pub returns-clause-write_fault : goal.returns-clause-write_fault
returns-clause-write_fault g c is = rose_on _ _ _ c.open-2.ensures.cause.never_falls (c.follow.ensures.write_fault is)

pub returns-clause-never_falls : goal.returns-clause-never_falls
returns-clause-never_falls g c = omega (arith, c.in-Ok-open.ensures.source.never_falls, c.follow.ensures.source.never_falls)

pub returns-in-Err-open-2-clause-never_falls : goal.returns-in-Err-open-2-clause-never_falls
returns-in-Err-open-2-clause-never_falls g c = c.in-Ok-open.ensures.source.never_falls

pub returns-in-Err-open-clause-never_falls : goal.returns-in-Err-open-clause-never_falls
returns-in-Err-open-clause-never_falls g c = c.in-Err-open.ensures.source.never_falls

pub returns-in-Err-new-clause-never_falls : goal.returns-in-Err-new-clause-never_falls
returns-in-Err-new-clause-never_falls g c = c.in-Ok-open.ensures.source.never_falls

-- ---- after each line

pub returns-in-Err-clause-safe : goal.returns-in-Err-clause-safe
returns-in-Err-clause-safe g c = c.sharing_laws.ensures.safe_input (g.S.Source.left c.args.source.now)

pub returns-in-Err-clause-lawful : goal.returns-in-Err-clause-lawful
returns-in-Err-clause-lawful g c = c.sharing_laws.ensures.lawful_input (g.S.Source.left c.args.source.now)

pub returns-in-Err-open-clause-safe : goal.returns-in-Err-open-clause-safe
returns-in-Err-open-clause-safe g c = c.sharing_laws.ensures.safe_input (g.S.Source.left c.args.source.now)

pub returns-in-Err-open-clause-lawful : goal.returns-in-Err-open-clause-lawful
returns-in-Err-open-clause-lawful g c = c.sharing_laws.ensures.lawful_input (g.S.Source.left c.args.source.now)

pub returns-in-Err-new-clause-safe : goal.returns-in-Err-new-clause-safe
returns-in-Err-new-clause-safe g c = c.sharing_laws.ensures.safe_input (g.S.Source.left c.args.source.now)

pub returns-in-Err-new-clause-lawful : goal.returns-in-Err-new-clause-lawful
returns-in-Err-new-clause-lawful g c = c.sharing_laws.ensures.lawful_input (g.S.Source.left c.args.source.now)

pub returns-in-Err-open-2-clause-safe : goal.returns-in-Err-open-2-clause-safe
returns-in-Err-open-2-clause-safe g c = c.sharing_laws.ensures.safe_input (g.S.Source.left c.args.source.now)

pub returns-in-Err-open-2-clause-lawful : goal.returns-in-Err-open-2-clause-lawful
returns-in-Err-open-2-clause-lawful g c = c.sharing_laws.ensures.lawful_input (g.S.Source.left c.args.source.now)

pub returns-clause-safe : goal.returns-clause-safe
returns-clause-safe g c = c.sharing_laws.ensures.safe_input (g.S.Source.left c.args.source.now)

pub returns-clause-lawful : goal.returns-clause-lawful
returns-clause-lawful g c = c.sharing_laws.ensures.lawful_input (g.S.Source.left c.args.source.now)
