-- The opening, and then the rows and the end.
use Rattle.std.proofs.Common.{◌++◌, List, ℕ, subst, sym}
use Rattle.kn_io.specs.Prefix.{AppendsPrefix}
use Rattle.kn_print.specs.Printed.{preface, lines_to_end}
use Rattle.kn_print.proofs.Pieces.{on_err, on_ok}
use Rattle.kn_print.proofs.print.add_journal.Goals as goal

pub returns-in-Err-clause-err : goal.returns-in-Err-clause-err
returns-in-Err-clause-err g c =
    let setup = c.args.setup.now in
    let P : List ℕ → Type 0 = λ z. AppendsPrefix (g.O.Sink.held c.args.out.now) (g.O.Sink.held c.add_opening.new.out) (c.args.text.now ++ z) in
    subst P (sym (c.printed_laws.ensures.whole setup c.args.start c.args.rows.now))
    (c.adding_laws.ensures.laws.behind (g.O.Sink.held c.args.out.now) (g.O.Sink.held c.add_opening.new.out) c.args.text.now (preface setup c.args.start) (lines_to_end c.args.rows.now) c.in-Err.ensures.err)

pub returns-clause-ok : goal.returns-clause-ok
returns-clause-ok g c =
    let whole = c.printed_laws.ensures.whole c.args.setup.now c.args.start c.args.rows.now in
    on_ok c.add_rest.result (λ rest. c.adding_laws.ensures.laws.more c.in-Ok.ensures.ok rest (sym whole)) c.add_rest.ensures.ok

pub returns-clause-err : goal.returns-clause-err
returns-clause-err g c =
    let P : List ℕ → Type 0 = λ z. AppendsPrefix (g.O.Sink.held c.args.out.now) (g.O.Sink.held c.add_rest.new.out) (c.args.text.now ++ z) in
    on_err c.add_rest.result (λ rest. subst P (sym (c.printed_laws.ensures.whole c.args.setup.now c.args.start c.args.rows.now)) (c.adding_laws.ensures.laws.last _ _ c.in-Ok.ensures.ok rest)) c.add_rest.ensures.err
