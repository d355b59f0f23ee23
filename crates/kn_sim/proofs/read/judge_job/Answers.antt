-- Why a job's line is refused.
use Rattle.std.proofs.Common.{arith}
use Rattle.std.proofs.lemmas.Grind.{common_steps}
use Rattle.kn_sim.specs.Reading.{job_of}
use Rattle.kn_sim.proofs.Workloads.{job-back, job-bad, job-late, job-many}
use Rattle.kn_sim.proofs.read.judge_job.Goals as goal

pub returns-then-count-ge-JOBS_MOST-clause-err : goal.returns-then-count-ge-JOBS_MOST-clause-err
returns-then-count-ge-JOBS_MOST-clause-err c = job-many c.args.until c.args.last c.args.count c.args.number c.in-Ok.job (job_of c.args.line.now) c.in-Ok.ensures.value (grind (arith, common_steps))

pub returns-then-job-until-clause-err : goal.returns-then-job-until-clause-err
returns-then-job-until-clause-err c = job-late c.args.until c.args.last c.args.count c.args.number c.in-Ok.job (job_of c.args.line.now) c.in-Ok.ensures.value (grind (arith, common_steps)) (grind (arith, common_steps))

pub returns-then-job-last-clause-err : goal.returns-then-job-last-clause-err
returns-then-job-last-clause-err c = job-back c.args.until c.args.last c.args.count c.args.number c.in-Ok.job (job_of c.args.line.now) c.in-Ok.ensures.value (grind (arith, common_steps)) (grind (arith, common_steps)) (grind (arith, common_steps))

pub returns-in-Err-clause-err : goal.returns-in-Err-clause-err
returns-in-Err-clause-err c = job-bad c.args.until c.args.last c.args.count c.args.number c.in-Err.why (job_of c.args.line.now) c.in-Err.ensures.value
