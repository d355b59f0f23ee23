use Rattle.std.proofs.Common.{subst}
use Rattle.kn_cell.specs.declared.course.Course.{Course}
use Rattle.kn_request.specs.Sight.{HasCourse}
use Rattle.kn_request.proofs.Later.{is_over}
use Rattle.kn_request.proofs.wait.leave_queue.Goals as goal

pub returns-in-Runs-clause-runs : goal.returns-in-Runs-clause-runs
returns-in-Runs-clause-runs g c = subst (λ (x : Course). HasCourse c.args.pass.now c.args.r x) c.in-Runs.is c.requires.course

pub returns-in-Over-clause-ended : goal.returns-in-Over-clause-ended
returns-in-Over-clause-ended g c = is_over c.args.r c.args.pass.now c.requires.known (subst (λ (x : Course). HasCourse c.args.pass.now c.args.r x) c.in-Over.is c.requires.course)
