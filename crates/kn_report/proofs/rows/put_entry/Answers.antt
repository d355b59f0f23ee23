use Rattle.std.proofs.Common.{take, arith}
use Rattle.std.specs.Fmt.{decimal}
use Rattle.kn_report.proofs.InPlace.{behind_time, on_some, stays_before}
use Rattle.kn_report.proofs.rows.put_entry.Goals as goal

pub returns-clause-text : goal.returns-clause-text
returns-clause-text c =
    on_some c.put_row.result
    (λ end said. behind_time (take c.args.at c.args.room.now) (take c.put-behind.result c.put-behind.new.room) (take end c.put_row.new.room) c.args.e.now c.put-behind.ensures.text said)
    c.put_row.ensures.text

pub returns-clause-before : goal.returns-clause-before
returns-clause-before c none =
    stays_before c.args.room.now c.put-behind.new.room c.put_row.new.room (decimal c.args.e.now.time) c.args.at c.put-behind.result (omega arith) (omega arith)
    c.put-behind.ensures.text (c.put_row.ensures.before none)
