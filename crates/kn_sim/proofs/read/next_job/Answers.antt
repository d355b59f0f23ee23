-- A job, `end` and what follows it, or no line.
use Rattle.std.proofs.Common.{◌≡◌, true, false, arith}
use Rattle.std.specs.Prelude.{codes}
use Rattle.std.specs.Str.{bytes_eq}
use Rattle.std.proofs.lemmas.Grind.{common_steps}
use Rattle.kn_journal.specs.Reading.{unread}
use Rattle.kn_sim.specs.Reading.{in_turn, job_of}
use Rattle.kn_sim.proofs.Drawings.{draws_more, draws_so, draws_well, refused-no_fault}
use Rattle.kn_sim.proofs.Workloads.{job-lacks, job-next, job-refused, jobs-ended, jobs-more}
use Rattle.kn_sim.proofs.read.next_job.Goals as goal

pub returns-in-Err-clause-tells : goal.returns-in-Err-clause-tells
returns-in-Err-clause-tells g c = job-lacks c.args.until c.args.last c.args.count c.args.lines.now.number c.in-Err.e (unread c.args.lines.now.input (g.S.Source.left c.args.source.now)) c.in-Err.ensures.none

pub returns-in-Err-clause-source : goal.returns-in-Err-clause-source
returns-in-Err-clause-source g c = draws_so c.in-Err.ensures.source

pub returns-in-Ok-end-clause-tells : goal.returns-in-Ok-end-clause-tells
returns-in-Ok-end-clause-tells g c =
    let ends : bytes_eq c.next_line.new.self.line (codes "end") ≡ true = grind (arith, common_steps) in
    jobs-ended c.in-Ok-end.field-0 c.args.until c.args.last c.args.count c.args.lines.now.number c.next_line.new.self.number c.end.new.self.number (unread c.args.lines.now.input (g.S.Source.left c.args.source.now))
    (unread c.next_line.new.self.input (g.S.Source.left c.next_line.new.source)) (unread c.end.new.self.input (g.S.Source.left c.end.new.source)) c.next_line.new.self.line
    c.in-Ok.ensures.taken.line c.in-Ok.ensures.taken.fits c.in-Ok.ensures.taken.number ends c.in-Ok-end.ensures.tells

pub returns-in-Ok-end-clause-source : goal.returns-in-Ok-end-clause-source
returns-in-Ok-end-clause-source g c = draws_more c.in-Ok.ensures.source c.in-Ok-end.ensures.source

pub returns-in-Err-end-clause-tells : goal.returns-in-Err-end-clause-tells
returns-in-Err-end-clause-tells g c =
    let ends : bytes_eq c.next_line.new.self.line (codes "end") ≡ true = grind (arith, common_steps) in
    jobs-more c.args.until c.args.last c.args.count c.args.lines.now.number c.next_line.new.self.number (unread c.args.lines.now.input (g.S.Source.left c.args.source.now))
    (unread c.next_line.new.self.input (g.S.Source.left c.next_line.new.source)) c.next_line.new.self.line c.in-Err-end.e
    c.in-Ok.ensures.taken.line c.in-Ok.ensures.taken.fits c.in-Ok.ensures.taken.number ends c.in-Err-end.ensures.tells

pub returns-in-Err-end-clause-source : goal.returns-in-Err-end-clause-source
returns-in-Err-end-clause-source g c = draws_more c.in-Ok.ensures.source c.in-Err-end.ensures.source

pub returns-in-Ok-judge_job-clause-tells : goal.returns-in-Ok-judge_job-clause-tells
returns-in-Ok-judge_job-clause-tells g c =
    let other : bytes_eq c.next_line.new.self.line (codes "end") ≡ false = grind (arith, common_steps) in
    job-next c.args.until c.args.last c.args.count c.args.lines.now.number c.next_line.new.self.number (unread c.args.lines.now.input (g.S.Source.left c.args.source.now))
    (unread c.next_line.new.self.input (g.S.Source.left c.next_line.new.source)) c.next_line.new.self.line c.in-Ok-judge_job.job
    c.in-Ok.ensures.taken.line c.in-Ok.ensures.taken.fits c.in-Ok.ensures.taken.number other (rw (c.line-2.ensures, c.number.ensures) at c.in-Ok-judge_job.ensures.ok)

pub returns-in-Ok-judge_job-clause-source : goal.returns-in-Ok-judge_job-clause-source
returns-in-Ok-judge_job-clause-source g c = draws_well tt c.in-Ok.ensures.source

pub returns-in-Err-judge_job-clause-tells : goal.returns-in-Err-judge_job-clause-tells
returns-in-Err-judge_job-clause-tells g c =
    let other : bytes_eq c.next_line.new.self.line (codes "end") ≡ false = grind (arith, common_steps) in
    job-refused c.args.until c.args.last c.args.count c.args.lines.now.number c.next_line.new.self.number (unread c.args.lines.now.input (g.S.Source.left c.args.source.now))
    (unread c.next_line.new.self.input (g.S.Source.left c.next_line.new.source)) c.next_line.new.self.line c.in-Err-judge_job.e
    c.in-Ok.ensures.taken.line c.in-Ok.ensures.taken.fits c.in-Ok.ensures.taken.number other (rw (c.line-2.ensures, c.number.ensures) at c.in-Err-judge_job.ensures.err)

pub returns-in-Err-judge_job-clause-source : goal.returns-in-Err-judge_job-clause-source
returns-in-Err-judge_job-clause-source g c =
    draws_well (refused-no_fault (in_turn c.args.until c.args.last c.args.count c.number.result (job_of c.line-2.result.now)) c.in-Err-judge_job.e c.in-Err-judge_job.ensures.err) c.in-Ok.ensures.source
