use Rattle.kn_serve.proofs.run.serve_run.Goals as goal

pub returns-clause-course : goal.returns-clause-course
returns-clause-course g c = rw c.tell.ensures.same c.serve-status.ensures.course
