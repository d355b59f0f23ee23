use Rattle.kn_report.proofs.Waits.{adds_cut, adds_past, on_err, on_ok}
use Rattle.kn_report.proofs.waiting.Waiting.add.Goals as goal

pub returns-clause-ok : goal.returns-clause-ok
returns-clause-ok g c =
    on_ok c.put_all.result (adds_past c.in-Ok.ensures.ok c.flush.ensures.empty)
    c.put_all.ensures.ok

pub returns-clause-err : goal.returns-clause-err
returns-clause-err g c =
    on_err c.put_all.result (adds_cut _ _ c.in-Ok.ensures.ok c.flush.ensures.empty)
    c.put_all.ensures.err
