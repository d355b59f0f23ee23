use Rattle.kn_many.proofs.kactd_many.kactd_many_run.Goals as goal

pub returns-clause-course : goal.returns-clause-course
returns-clause-course g c = rw c.tell.ensures.same c.serve_words-status.ensures.course
