use Rattle.std.proofs.Common.{◌≡◌, length}
use Rattle.kn_stay_tcp.proofs.slots.slots.Given as goal

abbrev pub invariant-loop : goal.invariant-loop
invariant-loop g l = length l.slots.items ≡ l.counter
