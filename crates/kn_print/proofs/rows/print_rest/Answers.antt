-- Nothing waited before.
use Rattle.std.proofs.Common.{[]}
use Rattle.kn_report.specs.Waiting.{Adds}
use Rattle.kn_print.specs.Printed.{lines_to_end}
use Rattle.kn_print.proofs.Pieces.{on_err, on_ok}
use Rattle.kn_print.proofs.rows.print_rest.Goals as goal

pub returns-in-Err-clause-err : goal.returns-in-Err-clause-err
returns-in-Err-clause-err g c = rw c.new-text.ensures at c.in-Err.ensures.err

pub returns-clause-ok : goal.returns-clause-ok
returns-clause-ok g c =
    let all : Adds (g.O.Sink.held c.args.out.now) (g.O.Sink.held c.add_rest.new.out) [] c.add_rest.new.text (lines_to_end c.args.rows.now) = rw c.new-text.ensures at c.in-Ok.ensures.ok in
    on_ok c.flush.result (λ rest. c.adding_laws.ensures.laws.done (c.adding_laws.ensures.laws.on all rest) c.flush.ensures.empty) c.flush.ensures.ok

pub returns-clause-err : goal.returns-clause-err
returns-clause-err g c =
    let all : Adds (g.O.Sink.held c.args.out.now) (g.O.Sink.held c.add_rest.new.out) [] c.add_rest.new.text (lines_to_end c.args.rows.now) = rw c.new-text.ensures at c.in-Ok.ensures.ok in
    on_err c.flush.result (λ rest. c.adding_laws.ensures.laws.stop _ all rest) c.flush.ensures.err
