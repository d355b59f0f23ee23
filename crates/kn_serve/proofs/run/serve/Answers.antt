use Rattle.std.proofs.Common.{◌≡◌, List, length, map, refl, sym, ap, ◌∙◌, subst, inl, inr}
use Rattle.std.proofs.lemmas.List.{length-map}
use Rattle.std.specs.Prelude.{All, Err}
use Rattle.std.specs.Io.KnownBytes.{Appends}
use Rattle.kn_cell.specs.declared.past.Past.{Past}
use Rattle.kn_io.specs.Prefix.{AppendsPrefix}
use Rattle.kn_journal.specs.declared.error.JournalError.{JournalError}
use Rattle.kn_journal.specs.declared.error.JournalError.TheVariants as error
use Rattle.kn_journal.specs.Journal.{journal_text}
use Rattle.kn_request.specs.declared.slot.Slot.{Slot}
use Rattle.kn_session.specs.Rounds.{sides}
use Rattle.kn_session.specs.Session.{SlotServed}
use Rattle.kn_print.specs.Printed.{HasSmall, printed_journal}
use Rattle.kn_serve.specs.Running.{Session}
use Rattle.kn_serve.proofs.FineFacts.{all_fine}
use Rattle.kn_serve.proofs.RunFacts.{cleared, is_session, no_read_by, no_write_by, reads_back, works_cleared}
use Rattle.kn_serve.proofs.SetupFacts.{fault_of, memory_said, no_write_fault}
use Rattle.kn_serve.proofs.run.serve.Goals as goal

pub returns-in-Err-clause-course : goal.returns-in-Err-clause-course
returns-in-Err-clause-course g c = inl (record { error = c.in-Err.error; said = c.in-Err.ensures.says; status = c.status_of.ensures.value; same = (refl, refl, refl) })

pub returns-in-Err-clause-read_fault : goal.returns-in-Err-clause-read_fault
returns-in-Err-clause-read_fault g c is =
    c.in-Err.ensures.fault (ap (λ (e : JournalError). Err e) (fault_of c.in-Err.error (sym c.status_of.ensures.value ∙ is)))

pub returns-in-Err-clause-write_fault : goal.returns-in-Err-clause-write_fault
returns-in-Err-clause-write_fault g c is = absurd (no_write_fault c.in-Err.error (sym c.status_of.ensures.value ∙ is))

pub returns-in-Err-open_revision-clause-course : goal.returns-in-Err-open_revision-clause-course
returns-in-Err-open_revision-clause-course g c =
    inl (record { error = error.Memory; said = memory_said (g.S.Source.left c.args.setup.now); status = refl; same = (refl, refl, refl) })

pub returns-in-Err-serve_session-clause-course : goal.returns-in-Err-serve_session-clause-course
returns-in-Err-serve_session-clause-course g c =
    let nothing = c.in-Err-serve_session.ensures.nothing in
    inl (record { error = error.Memory; said = memory_said (g.S.Source.left c.args.setup.now); status = refl; same = (nothing.0, nothing.1, refl) })

pub returns-in-Ok-print_journal-clause-course : goal.returns-in-Ok-print_journal-clause-course
returns-in-Ok-print_journal-clause-course g c =
    let reading = g.K.Clock.reading c.args.clock.now in
    let ts = c.serve_session.new.slots in
    let h = c.in-Ok-serve_session.history in
    let many : length ts ≡ length c.args.slots.now = c.in-Ok-serve_session.ensures.slots.0 in
    let x : Session = record { setup = c.in-Ok.read; start = c.start_of-start.result; opened = c.in-Ok-open_revision.revision; history = h; faults = map (λ (s : Slot g.row.C.Denot g.row.L.Denot). s.work.fault) ts; wants = map (λ (s : Slot g.row.C.Denot g.row.L.Denot). s.work.memory) ts } in
    let is = is_session reading (length c.args.slots.now) x c.start_of-start.ensures.start c.in-Ok-open_revision.ensures.stands c.in-Ok-open_revision.ensures.spec c.in-Ok-open_revision.ensures.clock
    c.in-Ok-serve_session.ensures.history
    (length-map ts (λ (s : Slot g.row.C.Denot g.row.L.Denot). s.work.fault) ∙ many) (length-map ts (λ (s : Slot g.row.C.Denot g.row.L.Denot). s.work.memory) ∙ many)
    (λ ok. c.in-Ok-serve_session.ensures.fine (all_fine ts ok)) in
    let small = subst (All (λ (p : Past). HasSmall p.event.act)) c.items.ensures c.in-Ok-print_journal.ensures.small in
    inr (record {
      session = x;
      is = is;
      said = c.in-Ok.ensures.says;
      whole = c.in-Ok.ensures.whole;
      slots_did = cleared (λ i a b f w. SlotServed reading c.in-Ok.read.spec c.in-Ok-open_revision.revision c.args.plan.now.room c.args.plan.now.rounds h i a b f w)
          (λ (a : g.row.C.Denot) (l : g.row.L.Denot). sides (g.C.Sink.kept a) (g.C.Sink.held a) (g.C.Faulty.faults a) (g.L.PodLink.told l) (g.L.Faulty.faults l))
          c.args.slots.now ts c.clear.new.slots c.in-Ok-serve_session.ensures.slots c.clear.ensures;
      ticker_did = (c.in-Ok-serve_session.ensures.keeper.served, c.in-Ok-serve_session.ensures.keeper.probed);
      ends = inl (record {
        printed = subst (λ (r : List Past). Appends (g.O.Sink.held c.args.out.now) (g.O.Sink.held c.print_journal.new.out) (journal_text (printed_journal c.in-Ok.read c.start_of-start.result r))) c.items.ensures c.in-Ok-print_journal.ensures.ok;
        reads = reads_back c.journals_are_read.ensures.read reading (length c.args.slots.now) x is c.start_of-start.ensures.most small c.in-Ok.ensures.kept;
        status = c.end_of-ended.ensures;
      });
    })

pub returns-in-Ok-print_journal-clause-works : goal.returns-in-Ok-print_journal-clause-works
returns-in-Ok-print_journal-clause-works g c = works_cleared c.serve_session.new.slots c.clear.new.slots c.clear.ensures

pub returns-in-Ok-print_journal-clause-read_fault : goal.returns-in-Ok-print_journal-clause-read_fault
returns-in-Ok-print_journal-clause-read_fault g c is = absurd (no_read_by _ _ (sym c.end_of-ended.ensures ∙ is))

pub returns-in-Ok-print_journal-clause-write_fault : goal.returns-in-Ok-print_journal-clause-write_fault
returns-in-Ok-print_journal-clause-write_fault g c is = absurd (no_write_by _ _ (sym c.end_of-ended.ensures ∙ is))

pub returns-clause-works : goal.returns-clause-works
returns-clause-works g c = works_cleared c.serve_session.new.slots c.clear.new.slots c.clear.ensures

pub returns-clause-course : goal.returns-clause-course
returns-clause-course g c =
    let reading = g.K.Clock.reading c.args.clock.now in
    let ts = c.serve_session.new.slots in
    let h = c.in-Ok-serve_session.history in
    let many : length ts ≡ length c.args.slots.now = c.in-Ok-serve_session.ensures.slots.0 in
    let x : Session = record { setup = c.in-Ok.read; start = c.start_of-start.result; opened = c.in-Ok-open_revision.revision; history = h; faults = map (λ (s : Slot g.row.C.Denot g.row.L.Denot). s.work.fault) ts; wants = map (λ (s : Slot g.row.C.Denot g.row.L.Denot). s.work.memory) ts } in
    let is = is_session reading (length c.args.slots.now) x c.start_of-start.ensures.start c.in-Ok-open_revision.ensures.stands c.in-Ok-open_revision.ensures.spec c.in-Ok-open_revision.ensures.clock
    c.in-Ok-serve_session.ensures.history
    (length-map ts (λ (s : Slot g.row.C.Denot g.row.L.Denot). s.work.fault) ∙ many) (length-map ts (λ (s : Slot g.row.C.Denot g.row.L.Denot). s.work.memory) ∙ many)
    (λ ok. c.in-Ok-serve_session.ensures.fine (all_fine ts ok)) in
    inr (record {
      session = x;
      is = is;
      said = c.in-Ok.ensures.says;
      whole = c.in-Ok.ensures.whole;
      slots_did = cleared (λ i a b f w. SlotServed reading c.in-Ok.read.spec c.in-Ok-open_revision.revision c.args.plan.now.room c.args.plan.now.rounds h i a b f w)
          (λ (a : g.row.C.Denot) (l : g.row.L.Denot). sides (g.C.Sink.kept a) (g.C.Sink.held a) (g.C.Faulty.faults a) (g.L.PodLink.told l) (g.L.Faulty.faults l))
          c.args.slots.now ts c.clear.new.slots c.in-Ok-serve_session.ensures.slots c.clear.ensures;
      ticker_did = (c.in-Ok-serve_session.ensures.keeper.served, c.in-Ok-serve_session.ensures.keeper.probed);
      ends = inr (refl, subst (λ (r : List Past). AppendsPrefix (g.O.Sink.held c.args.out.now) (g.O.Sink.held c.print_journal.new.out) (journal_text (printed_journal c.in-Ok.read c.start_of-start.result r))) c.items.ensures c.in-Err-print_journal.ensures.err);
    })
