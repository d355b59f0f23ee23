use Rattle.std.proofs.Common.{◌≡◌, ◌++◌, ℕ, List, refl, sym, subst, ap, ◌∙◌, arith}
use Rattle.kn_core.specs.State.{RevisionState, StandsFor}
use Rattle.kn_event.specs.declared.event.Event.{Event}
use Rattle.kn_journal.specs.declared.status.Status.{Status}
use Rattle.kn_journal.specs.Reading.{IsOver, unread}
use Rattle.kn_teller.specs.Manner.{Manner, told}
use Rattle.kn_teller.specs.Run.{Run, begun, trace}
use Rattle.kn_follow.specs.Account.{account_of}
use Rattle.kn_follow.specs.Following.{ran}
use Rattle.kn_bundle.specs.Stages.{FollowsCourse, FollowsStage}
use Rattle.kn_bundle.proofs.Journals.{manner_told, stage_cut, stage_fails, stage_follows, stage_memory}
use Rattle.kn_bundle.proofs.journal.follow_one.Goals as goal

pub returns-in-Err-clause-follows : goal.returns-in-Err-clause-follows
returns-in-Err-clause-follows g c =
    let a = account_of (g.F.Form.writes c.args.form.now) in
    let known = unread c.args.reader.now.input (g.S.Source.left c.args.source.now) in
    let left = unread c.open_journal.new.reader.input (g.S.Source.left c.open_journal.new.source) in
    let out = g.O.Sink.held c.args.out.now in
    subst (λ (x : Status). FollowsStage a c.args.reader.now.version c.args.reader.now.number c.open_journal.new.reader.number known left out out x) (sym c.status_of.ensures.value)
    (stage_fails a c.args.reader.now.version c.args.reader.now.number known left c.open_journal.new.reader.version c.open_journal.new.reader.number c.open_journal.new.reader.number c.in-Err.error out c.in-Err.ensures.opens)

pub returns-in-Err-make-clause-follows : goal.returns-in-Err-make-clause-follows
returns-in-Err-make-clause-follows g c =
    stage_memory (account_of (g.F.Form.writes c.args.form.now)) c.args.reader.now.version c.args.reader.now.number c.open_journal.new.reader.number (unread c.args.reader.now.input (g.S.Source.left c.args.source.now)) (unread c.open_journal.new.reader.input (g.S.Source.left c.open_journal.new.source)) (g.O.Sink.held c.args.out.now)

pub returns-in-Err-new-clause-follows : goal.returns-in-Err-new-clause-follows
returns-in-Err-new-clause-follows g c =
    stage_memory (account_of (g.F.Form.writes c.args.form.now)) c.args.reader.now.version c.args.reader.now.number c.open_journal.new.reader.number (unread c.args.reader.now.input (g.S.Source.left c.args.source.now)) (unread c.open_journal.new.reader.input (g.S.Source.left c.open_journal.new.source)) (g.O.Sink.held c.args.out.now)

pub returns-in-Err-tell_start-clause-follows : goal.returns-in-Err-tell_start-clause-follows
returns-in-Err-tell_start-clause-follows g c =
    let w = g.F.Form.writes c.args.form.now in
    let b = begun c.in-Ok.parts.0.spec c.in-Ok.parts.1 in
    let mid = c.open_journal.new.reader in
    let rest = unread mid.input (g.S.Source.left c.open_journal.new.source) in
    let some = rw (c.in-Ok-new.ensures.waiting, c.in-Ok-make.ensures.manner) at c.in-Err-tell_start.ensures.err b c.in-Ok-make.ensures.awaits c.in-Ok-new.ensures.opened in
    stage_cut c.adding_laws.ensures.laws w c.args.reader.now.version c.args.reader.now.number (unread c.args.reader.now.input (g.S.Source.left c.args.source.now)) rest rest mid.version c.in-Ok.parts.0 c.in-Ok.parts.1 mid.number mid.number (g.O.Sink.held c.args.out.now) (g.O.Sink.held c.tell_start.new.out) c.in-Ok.ensures.opens some

pub follow_events-requires-clause-ready : goal.follow_events-requires-clause-ready
follow_events-requires-clause-ready g c =
    let clock = ap (λ (x : RevisionState). x.clock) c.tell_start.ensures.revision ∙ c.in-Ok-new.ensures.opened.clock in
    record {
      within = c.in-Ok.ensures.within;
      last = c.in-Ok.ensures.start ∙ sym clock;
      clock = omega (arith, clock, c.in-Ok.ensures.most);
      events = ap (λ (x : RevisionState). x.events) c.tell_start.ensures.revision ∙ c.in-Ok-new.ensures.events;
    }

pub follow_events-requires-clause-load : goal.follow_events-requires-clause-load
follow_events-requires-clause-load g c = c.in-Ok-tell_start.ensures.few

pub follow_events-requires-clause-stands : goal.follow_events-requires-clause-stands
follow_events-requires-clause-stands g c =
    let b = begun c.in-Ok.parts.0.spec c.in-Ok.parts.1 in
    let opened = c.in-Ok-new.ensures.opened in
    let same : begun c.tell_start.new.self.revision.spec c.tell_start.new.self.revision.clock ≡ b = rw (c.tell_start.ensures.revision, opened.spec, opened.clock) (refl {a = b}) in
    let stands = subst (λ (x : RevisionState). StandsFor x (trace b)) (sym c.tell_start.ensures.revision) opened.stands in
    subst (λ (r : Run). StandsFor c.tell_start.new.self.revision (trace r)) (sym same) stands

pub follow_events-requires-clause-knows : goal.follow_events-requires-clause-knows
follow_events-requires-clause-knows g c =
    let b = begun c.in-Ok.parts.0.spec c.in-Ok.parts.1 in
    let opened = c.in-Ok-new.ensures.opened in
    let same : begun c.tell_start.new.self.revision.spec c.tell_start.new.self.revision.clock ≡ b = rw (c.tell_start.ensures.revision, opened.spec, opened.clock) (refl {a = b}) in
    subst (λ (r : Run). g.T.Teller.knows c.tell_start.new.teller r) (sym same) (c.in-Ok-tell_start.ensures.knows b c.in-Ok-make.ensures.awaits opened)

pub returns-clause-follows : goal.returns-clause-follows
returns-clause-follows g c =
    let w = g.F.Form.writes c.args.form.now in
    let setup = c.in-Ok.parts.0 in
    let start = c.in-Ok.parts.1 in
    let b = begun setup.spec start in
    let known = unread c.args.reader.now.input (g.S.Source.left c.args.source.now) in
    let mid = c.open_journal.new.reader in
    let rest = unread mid.input (g.S.Source.left c.open_journal.new.source) in
    let left = unread c.follow_events.new.reader.input (g.S.Source.left c.follow_events.new.source) in
    let opened = c.in-Ok-new.ensures.opened in
    let waiting = c.tell_start.new.self.waiting in
    let m = c.follow_events.new.reader.number in
    let before = g.O.Sink.held c.tell_start.new.out in
    let after = g.O.Sink.held c.follow_events.new.out in
    let result = c.follow_events.result in
    let same : begun c.tell_start.new.self.revision.spec c.tell_start.new.self.revision.clock ≡ b = rw (c.tell_start.ensures.revision, opened.spec, opened.clock) (refl {a = b}) in
    let manner = c.tell_start.ensures.manner ∙ c.in-Ok-make.ensures.manner in
    let one = subst (λ (r : Run). IsOver mid.cut rest → FollowsCourse (λ (es : List Event). waiting ++ told (g.T.Teller.manner c.tell_start.new.teller) r es) (λ (es : List Event). (g.T.Teller.manner c.tell_start.new.teller).ends mid.version (ran r es)) mid.version mid.last mid.number m rest left before after result) same c.follow_events.ensures.follows in
    let two = subst (λ (v : Manner). IsOver mid.cut rest → FollowsCourse (λ (es : List Event). waiting ++ told v b es) (λ (es : List Event). v.ends mid.version (ran b es)) mid.version mid.last mid.number m rest left before after result) manner one in
    let course = subst (λ (t : ℕ). IsOver mid.cut rest → FollowsCourse (λ (es : List Event). waiting ++ told w b es) (λ (es : List Event). w.ends mid.version (ran b es)) mid.version t mid.number m rest left before after result) c.in-Ok.ensures.start two in
    let adds = rw (c.in-Ok-new.ensures.waiting, c.in-Ok-make.ensures.manner) at c.in-Ok-tell_start.ensures.ok b c.in-Ok-make.ensures.awaits opened in
    stage_follows c.text_laws.ensures.laws c.adding_laws.ensures.laws (account_of w) c.args.reader.now.version c.args.reader.now.number known rest left mid.cut mid.version setup start mid.number m adds.written (λ es. waiting ++ told w b es) (λ es. w.ends mid.version (ran b es)) (g.O.Sink.held c.args.out.now) before after result
    c.openings_are_whole.ensures.setup c.openings_are_whole.ensures.start c.in-Ok.ensures.opens c.in-Ok.ensures.text (manner_told w mid.version setup start adds.written waiting adds.all) adds.held course c.follow_events.ensures.followed

pub returns-clause-text : goal.returns-clause-text
returns-clause-text g c is =
    c.text_laws.ensures.laws.more c.open_journal.new.reader.cut c.follow_events.new.reader.cut (unread c.args.reader.now.input (g.S.Source.left c.args.source.now)) (unread c.open_journal.new.reader.input (g.S.Source.left c.open_journal.new.source))
    (unread c.follow_events.new.reader.input (g.S.Source.left c.follow_events.new.source)) c.in-Ok.ensures.text (c.follow_events.ensures.text is)
