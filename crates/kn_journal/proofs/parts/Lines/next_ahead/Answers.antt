-- What stands ahead is an event's line.
use Rattle.std.proofs.Common.{◌≡◌, ◌+◌, ◌∙◌, ℕ, List, false, drop, sym, ap, subst}
use Rattle.std.specs.Prelude.{Ok, Some}
use Rattle.std.specs.Io.KnownBytes.{prepend_known}
use Rattle.kn_event.specs.EventLine.{event_text}
use Rattle.kn_journal.specs.Bundle.{next_by}
use Rattle.kn_journal.specs.Reading.{TakesText, unread}
use Rattle.kn_journal.specs.Telling.{LinesState, Tells}
use Rattle.kn_journal.proofs.Tellings.{ahead-event}
use Rattle.kn_journal.proofs.Texts.{text-ahead}
use Rattle.kn_journal.proofs.parts.Lines.next_ahead.Goals as goal

pub returns-clause-tells : goal.returns-clause-tells
returns-clause-tells c bundle left =
    let len = c.in_ok-e.len in
    let view = c.self.view_is ∙ c.event_ahead.ensures.same in
    let rest : c.skip.new.self.ahead ≡ drop (len + 1) c.args.self.now.input.ahead =
    c.skip.ensures.ahead ∙ ap (λ (r : LinesState). drop (len + 1) r.input.ahead) view in
    subst (λ (x : List ℕ). Tells (next_by bundle c.args.version c.args.last c.args.self.now.number) (c.self.inside.number + 1) (unread c.args.self.now.input left) (prepend_known x left) (Ok (Some c.in_ok-e.e)))
    (sym rest)
    (ahead-event bundle c.args.version c.args.last c.args.self.now.number (c.self.inside.number + 1) len c.args.self.now.input.ahead (event_text c.in_ok-e.e) left c.in_ok-e.e
    c.in_ok-e.ensures.line c.in_ok-e.ensures.fits c.in_ok-e.ensures.bytes (ap (λ (r : LinesState). r.number + 1) view) c.in_ok-e.ensures.event)

pub returns-clause-text : goal.returns-clause-text
returns-clause-text c left =
    let len = c.in_ok-e.len in
    let ahead = c.args.self.now.input.ahead in
    let view = c.self.view_is ∙ c.event_ahead.ensures.same in
    let rest : c.skip.new.self.ahead ≡ drop (len + 1) ahead = c.skip.ensures.ahead ∙ ap (λ (r : LinesState). drop (len + 1) r.input.ahead) view in
    subst (λ (x : List ℕ). TakesText false (prepend_known ahead left) (prepend_known x left)) (sym rest) (text-ahead len ahead left c.in_ok-e.ensures.lf)
