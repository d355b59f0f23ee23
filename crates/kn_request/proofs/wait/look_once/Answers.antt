use Rattle.kn_request.proofs.Later.{is_over, known_later, waits_later, waits_no_more}
use Rattle.kn_request.proofs.wait.look_once.Goals as goal

pub returns-in-Waits-clause-ended : goal.returns-in-Waits-clause-ended
returns-in-Waits-clause-ended g c =
    let p = c.args.pass.now in
    let q = c.course.new.pass in
    waits_no_more c.args.r q (waits_later c.server_laws.ensures.request c.args.r p q c.course.ensures.looks c.requires.known c.requires.left) c.in-Waits.ensures.course

pub returns-in-Over-clause-ended : goal.returns-in-Over-clause-ended
returns-in-Over-clause-ended g c =
    let p = c.args.pass.now in
    let q = c.course.new.pass in
    is_over c.args.r q (known_later c.server_laws.ensures.request c.args.r p q c.course.ensures.looks c.requires.known) c.in-Over.ensures.course
