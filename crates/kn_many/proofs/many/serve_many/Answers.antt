use Rattle.kn_many.proofs.many.serve_many.Goals as goal

pub returns-clause-course : goal.returns-clause-course
returns-clause-course g c = rw c.tell.ensures.same c.serve_all-status.ensures.course
