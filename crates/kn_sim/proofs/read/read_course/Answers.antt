-- The end and the jobs, or where they ended.
use Rattle.std.proofs.Common.{arith}
use Rattle.std.proofs.lemmas.Result.{err_from_is_err_and}
use Rattle.kn_journal.specs.Reading.{unread}
use Rattle.kn_sim.proofs.Drawings.{draws_more, draws_so}
use Rattle.kn_sim.proofs.Workloads.{course-gives, course-no_jobs, course-no_until}
use Rattle.kn_sim.proofs.read.read_course.Goals as goal

pub returns-in_err-until-clause-tells : goal.returns-in_err-until-clause-tells
returns-in_err-until-clause-tells g c =
    let p = err_from_is_err_and c.from_residual.result c.from_residual.ensures.1 in
    rw (p.1, p.2)
    (course-no_until c.args.setup c.args.start c.args.boot c.args.lines.now.number c.in_err-until.field-0.0 (unread c.args.lines.now.input (g.S.Source.left c.args.source.now)) (rw c.until_most.ensures at c.in_err-until.ensures.tells))

pub returns-in_err-until-clause-source : goal.returns-in_err-until-clause-source
returns-in_err-until-clause-source g c =
    let p = err_from_is_err_and c.from_residual.result c.from_residual.ensures.1 in
    rw (p.1, p.2)
    (draws_so c.in_err-until.ensures.source)

pub returns-in-Ok-clause-tells : goal.returns-in-Ok-clause-tells
returns-in-Ok-clause-tells g c =
    course-gives c.args.setup c.args.start c.args.boot c.in_ok-until.until c.in-Ok.jobs c.args.lines.now.number c.next_named.new.lines.number c.read_jobs.new.lines.number (unread c.args.lines.now.input (g.S.Source.left c.args.source.now))
    (unread c.next_named.new.lines.input (g.S.Source.left c.next_named.new.source)) (unread c.read_jobs.new.lines.input (g.S.Source.left c.read_jobs.new.source))
    (rw c.until_most.ensures at c.in_ok-until.ensures.tells) c.in-Ok.ensures.tells

pub returns-in-Ok-clause-source : goal.returns-in-Ok-clause-source
returns-in-Ok-clause-source g c = draws_more c.in_ok-until.ensures.source c.in-Ok.ensures.source

pub returns-in-Err-clause-tells : goal.returns-in-Err-clause-tells
returns-in-Err-clause-tells g c =
    course-no_jobs c.args.setup c.args.start c.args.boot c.in_ok-until.until c.args.lines.now.number c.next_named.new.lines.number c.in-Err.e (unread c.args.lines.now.input (g.S.Source.left c.args.source.now))
    (unread c.next_named.new.lines.input (g.S.Source.left c.next_named.new.source)) (rw c.until_most.ensures at c.in_ok-until.ensures.tells) c.in-Err.ensures.tells

pub returns-in-Err-clause-source : goal.returns-in-Err-clause-source
returns-in-Err-clause-source g c = draws_more c.in_ok-until.ensures.source c.in-Err.ensures.source

pub returns-in-Ok-clause-good : goal.returns-in-Ok-clause-good
returns-in-Ok-clause-good g c = record {
  setup = c.requires.setup;
  plain = record {
    ranges = c.spec_ranges.ensures;
    start = c.in_ok-until.ensures.least;
    boot = c.requires.boot;
    until = omega (arith, c.in_ok-until.ensures.most, c.until_most.ensures);
    long = omega (arith, c.in_ok-until.ensures.most, c.until_most.ensures);
    jobs = c.in-Ok.ensures.jobs;
    few = c.in-Ok.ensures.few;
  };
}
