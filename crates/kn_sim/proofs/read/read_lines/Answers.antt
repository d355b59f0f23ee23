-- The opening, the start, the boot time and the rest, or where they ended.
use Rattle.std.proofs.lemmas.Result.{err_from_is_err_and}
use Rattle.kn_journal.specs.Reading.{unread}
use Rattle.kn_sim.proofs.Drawings.{draws_more, draws_so}
use Rattle.kn_sim.proofs.Workloads.{workload-no_boot, workload-no_opening, workload-no_start, workload-tells}
use Rattle.kn_sim.proofs.read.read_lines.Goals as goal

pub returns-in_err-opening-clause-tells : goal.returns-in_err-opening-clause-tells
returns-in_err-opening-clause-tells g c =
    let p = err_from_is_err_and c.from_residual.result c.from_residual.ensures.1 in
    rw (p.1, p.2)
    (workload-no_opening c.args.lines.now.number c.in_err-opening.field-0.0 (unread c.args.lines.now.input (g.S.Source.left c.args.source.now)) c.in_err-opening.ensures.tells)

pub returns-in_err-opening-clause-source : goal.returns-in_err-opening-clause-source
returns-in_err-opening-clause-source g c =
    let p = err_from_is_err_and c.from_residual.result c.from_residual.ensures.1 in
    rw (p.1, p.2)
    (draws_so c.in_err-opening.ensures.source)

pub returns-in_err-start-clause-tells : goal.returns-in_err-start-clause-tells
returns-in_err-start-clause-tells g c =
    let p = err_from_is_err_and c.from_residual-in_err-start.result c.from_residual-in_err-start.ensures.1 in
    rw (p.1, p.2)
    (workload-no_start c.in_ok-opening.opening c.args.lines.now.number c.read_opening.new.lines.number c.in_err-start.field-0.0 (unread c.args.lines.now.input (g.S.Source.left c.args.source.now))
    (unread c.read_opening.new.lines.input (g.S.Source.left c.read_opening.new.source)) c.in_ok-opening.ensures.tells c.in_err-start.ensures.tells)

pub returns-in_err-start-clause-source : goal.returns-in_err-start-clause-source
returns-in_err-start-clause-source g c =
    let p = err_from_is_err_and c.from_residual-in_err-start.result c.from_residual-in_err-start.ensures.1 in
    rw (p.1, p.2)
    (draws_more c.in_ok-opening.ensures.source c.in_err-start.ensures.source)

pub returns-in_err-boot-clause-tells : goal.returns-in_err-boot-clause-tells
returns-in_err-boot-clause-tells g c =
    let p = err_from_is_err_and c.from_residual-in_err-boot.result c.from_residual-in_err-boot.ensures.1 in
    rw (p.1, p.2)
    (workload-no_boot c.in_ok-opening.opening c.in_ok-start.start c.args.lines.now.number c.read_opening.new.lines.number c.start.new.self.number c.in_err-boot.field-0.0 (unread c.args.lines.now.input (g.S.Source.left c.args.source.now))
    (unread c.read_opening.new.lines.input (g.S.Source.left c.read_opening.new.source)) (unread c.start.new.self.input (g.S.Source.left c.start.new.source)) c.in_ok-opening.ensures.tells c.in_ok-start.ensures.tells c.in_err-boot.ensures.tells)

pub returns-in_err-boot-clause-source : goal.returns-in_err-boot-clause-source
returns-in_err-boot-clause-source g c =
    let p = err_from_is_err_and c.from_residual-in_err-boot.result c.from_residual-in_err-boot.ensures.1 in
    rw (p.1, p.2)
    (draws_more c.in_ok-opening.ensures.source (draws_more c.in_ok-start.ensures.source c.in_err-boot.ensures.source))

pub returns-clause-tells : goal.returns-clause-tells
returns-clause-tells g c =
    workload-tells c.in_ok-opening.opening c.in_ok-start.start c.in_ok-boot.boot c.args.lines.now.number c.read_opening.new.lines.number c.start.new.self.number c.next_named.new.lines.number c.read_course.new.lines.number
    (unread c.args.lines.now.input (g.S.Source.left c.args.source.now)) (unread c.read_opening.new.lines.input (g.S.Source.left c.read_opening.new.source)) (unread c.start.new.self.input (g.S.Source.left c.start.new.source))
    (unread c.next_named.new.lines.input (g.S.Source.left c.next_named.new.source)) (unread c.read_course.new.lines.input (g.S.Source.left c.read_course.new.source)) c.read_course.result
    c.in_ok-opening.ensures.tells c.in_ok-start.ensures.tells c.in_ok-boot.ensures.tells c.read_course.ensures.tells

pub returns-clause-source : goal.returns-clause-source
returns-clause-source g c = draws_more c.in_ok-opening.ensures.source (draws_more c.in_ok-start.ensures.source (draws_more c.in_ok-boot.ensures.source c.read_course.ensures.source))
