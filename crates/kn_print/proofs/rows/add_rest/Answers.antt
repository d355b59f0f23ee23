-- The rows, and the end.
use Rattle.std.proofs.Common.{refl}
use Rattle.std.specs.Prelude.{codes}
use Rattle.kn_print.proofs.Pieces.{on_err, on_ok}
use Rattle.kn_print.specs.Printed.{lines_of}
use Rattle.kn_print.proofs.rows.add_rest.Goals as goal

pub returns-in-Err-clause-err : goal.returns-in-Err-clause-err
returns-in-Err-clause-err g c =
    c.adding_laws.ensures.laws.behind (g.O.Sink.held c.args.out.now) (g.O.Sink.held c.add_rows.new.out) c.args.text.now (lines_of c.args.rows.now) (codes "end\n") c.in-Err.ensures.err

pub returns-clause-ok : goal.returns-clause-ok
returns-clause-ok g c = on_ok c.add.result (λ end. c.adding_laws.ensures.laws.more c.in-Ok.ensures.ok end refl) c.add.ensures.ok

pub returns-clause-err : goal.returns-clause-err
returns-clause-err g c = on_err c.add.result (λ end. c.adding_laws.ensures.laws.last _ _ c.in-Ok.ensures.ok end) c.add.ensures.err
