use Rattle.std.proofs.Common.{refl}
use Rattle.kn_seats.proofs.Chains.{length_requests}
use Rattle.kn_seats.proofs.tracker.Tracker.has_next.Goals as goal

pub returns-then-has_free_seat : goal.returns-then-has_free_seat
returns-then-has_free_seat c = λ cells.
    let q = c.args.self.now.queue in
    rw (length_requests cells.request.items cells.next.items q.first q.count, ← c.has_free_seat.ensures cells, c.if-has_free_seat.true) refl

pub returns-else-has_free_seat : goal.returns-else-has_free_seat
returns-else-has_free_seat c = λ cells. rw (← c.has_free_seat.ensures cells, c.if-has_free_seat.false) refl
