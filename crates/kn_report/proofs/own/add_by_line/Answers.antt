-- The number, and then the row.
use Rattle.std.proofs.Common.{◌∙◌, refl}
use Rattle.kn_report.proofs.Waits.{adds_last, adds_more, on_err, on_ok}
use Rattle.kn_report.proofs.own.add_by_line.Goals as goal

pub returns-clause-ok : goal.returns-clause-ok
returns-clause-ok g c =
    let first = rw (c.bytes.ensures ∙ c.set_number.ensures) at c.in-Ok.ensures.ok in
    on_ok c.add-2.result
    (λ row. adds_more first row refl)
    (rw (c.bytes-2.ensures ∙ c.entry_line.ensures) at c.add-2.ensures.ok)

pub returns-clause-err : goal.returns-clause-err
returns-clause-err g c =
    let first = rw (c.bytes.ensures ∙ c.set_number.ensures) at c.in-Ok.ensures.ok in
    on_err c.add-2.result
    (λ row. adds_last _ _ first row)
    (rw (c.bytes-2.ensures ∙ c.entry_line.ensures) at c.add-2.ensures.err)
