use Rattle.kn_seats.proofs.Listed.{held-new}
use Rattle.kn_seats.proofs.seats.Seats.new.Goals as goal

pub invariant_of-result : goal.invariant_of-result
invariant_of-result c = record {
  held = rw c.in-Ok-with_capacity.ensures.items (held-new c.in-Ok.cells c.args.pods c.args.requests c.in-Ok.ensures c.requires.requests);
  reserved = c.in-Ok-with_capacity.ensures.capacity;
}
