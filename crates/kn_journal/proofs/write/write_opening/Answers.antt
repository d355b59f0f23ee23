-- Line 1, and then the setup.
use Rattle.std.proofs.Common.{◌++◌, ◌∷◌, [], ◌∙◌}
use Rattle.std.proofs.KnownBytes.{Appends-trans}
use Rattle.kn_preamble.specs.First.{first_line}
use Rattle.kn_journal.proofs.Pieces.{on_err, on_ok, prefix_last, prefix_more}
use Rattle.kn_journal.proofs.write.write_opening.Goals as goal

pub returns-in-Err-clause-err : goal.returns-in-Err-clause-err
returns-in-Err-clause-err g c =
    prefix_more (g.O.Sink.held c.args.out.now) (g.O.Sink.held c.put_all.new.out) (first_line c.args.j.now.version ++ 10 ∷ []) c.args.j.now.setup.text
    (rw (c.bytes.ensures ∙ c.set_line.ensures) at c.in-Err.ensures.err)

pub returns-clause-ok : goal.returns-clause-ok
returns-clause-ok g c =
    let first = rw (c.bytes.ensures ∙ c.set_line.ensures) at c.in-Ok.ensures.ok in
    on_ok c.put_all-2.result
    (λ text. Appends-trans (g.O.Sink.held c.args.out.now) (g.O.Sink.held c.put_all.new.out) (g.O.Sink.held c.put_all-2.new.out) (first_line c.args.j.now.version ++ 10 ∷ []) c.args.j.now.setup.text first text)
    (rw c.bytes-2.ensures at c.put_all-2.ensures.ok)

pub returns-clause-err : goal.returns-clause-err
returns-clause-err g c =
    let first = rw (c.bytes.ensures ∙ c.set_line.ensures) at c.in-Ok.ensures.ok in
    on_err c.put_all-2.result
    (λ text. prefix_last (g.O.Sink.held c.args.out.now) (g.O.Sink.held c.put_all.new.out) (g.O.Sink.held c.put_all-2.new.out) (first_line c.args.j.now.version ++ 10 ∷ []) c.args.j.now.setup.text first text)
    (rw c.bytes-2.ensures at c.put_all-2.ensures.err)
