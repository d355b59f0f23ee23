use Rattle.std.proofs.Common.{◌≡◌, ◌≤◌, ◌∙◌, List, ap, arith, inl, inr, length, map, refl, subst, sym}
use Rattle.std.proofs.lemmas.List.{length-map}
use Rattle.std.specs.Prelude.{All}
use Rattle.std.specs.Io.KnownBytes.{Appends}
use Rattle.kn_cell.specs.declared.past.Past.{Past}
use Rattle.kn_io.specs.Prefix.{AppendsPrefix}
use Rattle.kn_journal.specs.declared.error.JournalError.TheVariants as error
use Rattle.kn_journal.specs.declared.journal.Journal.{Journal}
use Rattle.kn_journal.specs.declared.journal.Setup.{Setup}
use Rattle.kn_print.specs.Printed.{HasSmall, journals_text, printed_journals}
use Rattle.kn_session.specs.Wide.{wide_sides}
use Rattle.kn_many.proofs.ManyEnds.{faults_of, sessions_of, status_is, wants_of}
use Rattle.kn_many.proofs.ManyFacts.{sessions-journals, sessions-many, sessions-setups}
use Rattle.kn_many.proofs.ManyRun.{each_reads, each_session, nothing_said, opened_dead, ran_of, ready_again, slots_served, ticked}
use Rattle.kn_many.proofs.many.serve_all.Goals as goal

pub returns-in_default-clause-course : goal.returns-in_default-clause-course
returns-in_default-clause-course g c =
    inl (record { error = error.Memory; said = nothing_said (length c.args.plan.now.pods) (g.S.Source.left c.args.setups.now); status = refl; same = (refl, refl, refl) })

pub returns-in_default-open_revisions-clause-course : goal.returns-in_default-open_revisions-clause-course
returns-in_default-open_revisions-clause-course g c =
    inl (record { error = error.Memory; said = nothing_said (length c.args.plan.now.pods) (g.S.Source.left c.args.setups.now); status = refl; same = (refl, refl, refl) })

pub serve_wide_session-requires-clause-revisions : goal.serve_wide_session-requires-clause-revisions
serve_wide_session-requires-clause-revisions g c κs within = λ v b low.
    let many = c.in-Ok-open_revisions.ensures.many in
    let dead = opened_dead c.start_of-start.result c.in-Ok.read c.items-3.result.now c.in-Ok-open_revisions.revisions.items c.items-3.ensures c.in-Ok-open_revisions.ensures.opened v b (omega (arith, low, many)) in
    let none = dead.1.events in
    record { live = dead.1.live; events = omega (arith, none) }

pub returns-in-Err-serve_wide_session-clause-course : goal.returns-in-Err-serve_wide_session-clause-course
returns-in-Err-serve_wide_session-clause-course g c =
    let nothing = c.in-Err-serve_wide_session.ensures.nothing in
    inl (record { error = error.Memory; said = nothing_said (length c.args.plan.now.pods) (g.S.Source.left c.args.setups.now); status = refl; same = (nothing.0, nothing.1, refl) })

pub returns-in-Ok-print_journals-clause-course : goal.returns-in-Ok-print_journals-clause-course
returns-in-Ok-print_journals-clause-course g c =
    let reading = g.K.Clock.reading c.args.clock.now in
    let start = c.start_of-start.result in
    let ss = c.in-Ok.read in
    let bs = c.in-Ok-open_revisions.revisions.items in
    let hs = c.in-Ok-serve_wide_session.histories.items in
    let ts = c.serve_wide_session.new.slots in
    let did = c.in-Ok-serve_wide_session.ensures in
    let count : length ss ≡ length c.args.plan.now.pods = c.in-Ok.ensures.many ∙ ap length c.items.ensures in
    let some : 1 ≤ length ss = omega (arith, count, c.requires.plan.lists_least) in
    let of = c.in-Ok-specs_of.ensures in
    let same = of ∙ ap (map (λ (s : Setup). s.spec)) c.items-2.ensures in
    let many : length c.in-Ok-specs_of.specs ≡ length ss = ap length same ∙ length-map ss (λ (s : Setup). s.spec) in
    let ran = ran_of reading (length c.args.slots.now) start ss c.items-2.result.now c.items-3.result.now c.in-Ok-specs_of.specs bs c.in-Ok-serve_wide_session.histories c.args.slots.now ts
    c.start_of-start.ensures.start c.start_of-start.ensures.most c.in-Ok.ensures.kept some c.items-2.ensures c.items-3.ensures of c.in-Ok-open_revisions.ensures.many c.in-Ok-open_revisions.ensures.opened
    did.histories did.fine refl (rw count c.requires.slots) did.kept.slots_kept in
    let small = subst (All (All (λ (p : Past). HasSmall p.event.act))) c.deref.ensures.value c.in-Ok-print_journals.ensures.small in
    let printed = subst (λ (zs : List (List Past)). Appends (g.O.Sink.held c.args.out.now) (g.O.Sink.held c.print_journals.new.out) (journals_text (printed_journals ss start zs))) c.deref.ensures.value
    (subst (λ (zs : List Setup). Appends (g.O.Sink.held c.args.out.now) (g.O.Sink.held c.print_journals.new.out) (journals_text (printed_journals zs start c.deref.result.now))) c.items-4.ensures c.in-Ok-print_journals.ensures.ok) in
    inr (record {
      sessions = sessions_of start ts ss bs hs;
      many = sessions-many start (faults_of ts) (wants_of ts) 0 ss bs hs ran.many ∙ count;
      each = each_session reading c.run_laws.ensures (length c.args.slots.now) start ss bs hs ts ran;
      said = rw (sessions-setups start (faults_of ts) (wants_of ts) 0 ss bs hs ran.many) (rw c.items.ensures at c.in-Ok.ensures.says);
      whole = c.in-Ok.ensures.whole;
      slots_did = slots_served reading (length c.args.slots.now) c.args.plan.now.room c.args.plan.now.rounds start c.in-Ok-specs_of.specs ss bs hs
          (λ (a : g.row.C.Denot) (l : List g.row.L.Denot). wide_sides (g.C.Sink.kept a) (g.C.Sink.held a) (g.C.Faulty.faults a) (map (λ x. g.L.PodLink.told x) l) (map (λ x. g.L.Faulty.faults x) l))
          c.args.slots.now ts c.clear_all.new.slots ran same did.slots c.clear_all.ensures;
      ticker_did = ticked reading (length c.args.slots.now) c.args.plan.now.room start ss bs hs ts _ _ _ _ ran (λ v b low. did.keepers v b (omega (arith, low, many)));
      ends = inl (record {
        printed = rw (sessions-journals start (faults_of ts) (wants_of ts) 0 ss bs hs ran.many) printed;
        reads = each_reads reading c.run_laws.ensures (length c.args.slots.now) start ss bs hs ts ran small;
        status = c.end_of_all-ended.ensures ∙ status_is start ts ss bs hs (length c.args.slots.now) ran.many some ran.long ran.works;
      });
    })

pub returns-in-Ok-print_journals-clause-slots : goal.returns-in-Ok-print_journals-clause-slots
returns-in-Ok-print_journals-clause-slots g c =
    ready_again (length c.args.plan.now.pods) c.args.slots.now c.serve_wide_session.new.slots c.clear_all.new.slots c.requires.slots c.in-Ok-serve_wide_session.ensures.kept.slots_kept c.clear_all.ensures

pub returns-clause-course : goal.returns-clause-course
returns-clause-course g c =
    let reading = g.K.Clock.reading c.args.clock.now in
    let start = c.start_of-start.result in
    let ss = c.in-Ok.read in
    let bs = c.in-Ok-open_revisions.revisions.items in
    let hs = c.in-Ok-serve_wide_session.histories.items in
    let ts = c.serve_wide_session.new.slots in
    let did = c.in-Ok-serve_wide_session.ensures in
    let count : length ss ≡ length c.args.plan.now.pods = c.in-Ok.ensures.many ∙ ap length c.items.ensures in
    let some : 1 ≤ length ss = omega (arith, count, c.requires.plan.lists_least) in
    let of = c.in-Ok-specs_of.ensures in
    let same = of ∙ ap (map (λ (s : Setup). s.spec)) c.items-2.ensures in
    let many : length c.in-Ok-specs_of.specs ≡ length ss = ap length same ∙ length-map ss (λ (s : Setup). s.spec) in
    let ran = ran_of reading (length c.args.slots.now) start ss c.items-2.result.now c.items-3.result.now c.in-Ok-specs_of.specs bs c.in-Ok-serve_wide_session.histories c.args.slots.now ts
    c.start_of-start.ensures.start c.start_of-start.ensures.most c.in-Ok.ensures.kept some c.items-2.ensures c.items-3.ensures of c.in-Ok-open_revisions.ensures.many c.in-Ok-open_revisions.ensures.opened
    did.histories did.fine refl (rw count c.requires.slots) did.kept.slots_kept in
    let printed = subst (λ (zs : List (List Past)). AppendsPrefix (g.O.Sink.held c.args.out.now) (g.O.Sink.held c.print_journals.new.out) (journals_text (printed_journals ss start zs))) c.deref.ensures.value
    (subst (λ (zs : List Setup). AppendsPrefix (g.O.Sink.held c.args.out.now) (g.O.Sink.held c.print_journals.new.out) (journals_text (printed_journals zs start c.deref.result.now))) c.items-4.ensures c.in-Err-print_journals.ensures.err) in
    inr (record {
      sessions = sessions_of start ts ss bs hs;
      many = sessions-many start (faults_of ts) (wants_of ts) 0 ss bs hs ran.many ∙ count;
      each = each_session reading c.run_laws.ensures (length c.args.slots.now) start ss bs hs ts ran;
      said = rw (sessions-setups start (faults_of ts) (wants_of ts) 0 ss bs hs ran.many) (rw c.items.ensures at c.in-Ok.ensures.says);
      whole = c.in-Ok.ensures.whole;
      slots_did = slots_served reading (length c.args.slots.now) c.args.plan.now.room c.args.plan.now.rounds start c.in-Ok-specs_of.specs ss bs hs
          (λ (a : g.row.C.Denot) (l : List g.row.L.Denot). wide_sides (g.C.Sink.kept a) (g.C.Sink.held a) (g.C.Faulty.faults a) (map (λ x. g.L.PodLink.told x) l) (map (λ x. g.L.Faulty.faults x) l))
          c.args.slots.now ts c.clear_all.new.slots ran same did.slots c.clear_all.ensures;
      ticker_did = ticked reading (length c.args.slots.now) c.args.plan.now.room start ss bs hs ts _ _ _ _ ran (λ v b low. did.keepers v b (omega (arith, low, many)));
      ends = inr (refl, subst (λ (js : List Journal). AppendsPrefix (g.O.Sink.held c.args.out.now) (g.O.Sink.held c.print_journals.new.out) (journals_text js)) (sym (sessions-journals start (faults_of ts) (wants_of ts) 0 ss bs hs ran.many)) printed);
    })

pub returns-clause-slots : goal.returns-clause-slots
returns-clause-slots g c =
    ready_again (length c.args.plan.now.pods) c.args.slots.now c.serve_wide_session.new.slots c.clear_all.new.slots c.requires.slots c.in-Ok-serve_wide_session.ensures.kept.slots_kept c.clear_all.ensures
