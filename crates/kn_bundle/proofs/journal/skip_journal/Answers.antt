use Rattle.std.proofs.Common.{[], ℕ, sym, subst}
use Rattle.std.proofs.KnownBytes.{Appends-nil}
use Rattle.kn_journal.specs.declared.status.Status.{Status}
use Rattle.kn_journal.specs.Reading.{IsOver, unread}
use Rattle.kn_bundle.specs.Stages.{FollowsCourse, FollowsStage, nothing}
use Rattle.kn_bundle.proofs.Journals.{nothing_told, stage_fails, stage_follows}
use Rattle.kn_bundle.proofs.journal.skip_journal.Goals as goal

pub returns-in-Err-clause-skips : goal.returns-in-Err-clause-skips
returns-in-Err-clause-skips g c out =
    let known = unread c.args.reader.now.input (g.S.Source.left c.args.source.now) in
    let left = unread c.open_journal.new.reader.input (g.S.Source.left c.open_journal.new.source) in
    subst (λ (x : Status). FollowsStage nothing c.args.reader.now.version c.args.reader.now.number c.open_journal.new.reader.number known left out out x) (sym c.status_of.ensures.value)
    (stage_fails nothing c.args.reader.now.version c.args.reader.now.number known left c.open_journal.new.reader.version c.open_journal.new.reader.number c.open_journal.new.reader.number c.in-Err.error out c.in-Err.ensures.opens)

pub returns-clause-skips : goal.returns-clause-skips
returns-clause-skips g c out =
    let known = unread c.args.reader.now.input (g.S.Source.left c.args.source.now) in
    let mid = c.open_journal.new.reader in
    let rest = unread mid.input (g.S.Source.left c.open_journal.new.source) in
    let left = unread c.skip_events.new.reader.input (g.S.Source.left c.skip_events.new.source) in
    let start = c.in-Ok.parts.1 in
    let course = subst (λ (t : ℕ). IsOver mid.cut rest → FollowsCourse (λ es. []) (λ es. []) mid.version t mid.number c.skip_events.new.reader.number rest left out out c.skip_events.result) c.in-Ok.ensures.start (c.skip_events.ensures.skips out) in
    stage_follows c.text_laws.ensures.laws c.adding_laws.ensures.laws nothing c.args.reader.now.version c.args.reader.now.number known rest left mid.cut mid.version c.in-Ok.parts.0 start mid.number c.skip_events.new.reader.number [] (λ es. []) (λ es. []) out out out c.skip_events.result
    c.openings_are_whole.ensures.setup c.openings_are_whole.ensures.start c.in-Ok.ensures.opens c.in-Ok.ensures.text (nothing_told mid.version c.in-Ok.parts.0 start) (Appends-nil out) course c.skip_events.ensures.followed

pub returns-clause-text : goal.returns-clause-text
returns-clause-text g c is =
    c.text_laws.ensures.laws.more c.open_journal.new.reader.cut c.skip_events.new.reader.cut (unread c.args.reader.now.input (g.S.Source.left c.args.source.now)) (unread c.open_journal.new.reader.input (g.S.Source.left c.open_journal.new.source))
    (unread c.skip_events.new.reader.input (g.S.Source.left c.skip_events.new.source)) c.in-Ok.ensures.text (c.skip_events.ensures.text is)
