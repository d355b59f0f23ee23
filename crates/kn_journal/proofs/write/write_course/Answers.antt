-- The start, and then the events.
use Rattle.std.proofs.Common.{◌++◌, ◌∷◌, [], ◌∙◌}
use Rattle.std.specs.Prelude.{codes}
use Rattle.std.specs.Fmt.{decimal}
use Rattle.kn_journal.specs.Journal.{events_text}
use Rattle.kn_journal.proofs.Pieces.{on_err, prefix_last, prefix_more}
use Rattle.kn_journal.proofs.write.write_course.Goals as goal

pub returns-in-Err-clause-err : goal.returns-in-Err-clause-err
returns-in-Err-clause-err g c =
    prefix_more (g.O.Sink.held c.args.out.now) (g.O.Sink.held c.put_all.new.out) ((codes "start " ++ decimal c.args.j.now.start) ++ 10 ∷ []) (events_text c.args.j.now.events)
    (rw (c.bytes.ensures ∙ c.set_line.ensures) at c.in-Err.ensures.err)

pub returns-clause-err : goal.returns-clause-err
returns-clause-err g c =
    let first = rw (c.bytes.ensures ∙ c.set_line.ensures) at c.in-Ok.ensures.ok in
    on_err c.write_events.result
    (λ lines. prefix_last (g.O.Sink.held c.args.out.now) (g.O.Sink.held c.put_all.new.out) (g.O.Sink.held c.write_events.new.out)
    ((codes "start " ++ decimal c.args.j.now.start) ++ 10 ∷ []) (events_text c.args.j.now.events) first lines)
    (rw c.items.ensures at c.write_events.ensures.err)
