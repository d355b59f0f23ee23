use Rattle.kn_seats.proofs.Sought.{IsSought}
use Rattle.kn_seats.proofs.cells.leading_to.Given as goal

abbrev pub invariant-loop : goal.invariant-loop
invariant-loop l = IsSought l.r l.fn.queue l.cells l.place l.counter
