use Rattle.std.proofs.Common.{◌≡◌, ◌≤◌, ◌+◌, []}
use Rattle.kn_cell.proofs.turn.await_turn.Given as goal

abbrev pub invariant-loop : goal.invariant-loop
invariant-loop g l = record {
  same : l.place.table_id ≡ l.fn.place.table_id;
  id : l.place.id ≡ l.fn.place.id;
  later : l.fn.place.me.0.missed ≤ l.place.me.0.missed;
  alone : 1 + l.fn.place.me.0.free + l.fn.place.me.0.back ≡ l.fn.place.me.0.key.passes → l.place.me.0.missed ≡ l.fn.place.me.0.missed;
  view : l.place.me.0 ≡ record l.fn.place.me.0 { missed = l.place.me.0.missed };
  empty : l.place.me.1 ≡ [];
}

abbrev pub invariant-loop-2 : goal.invariant-loop-2
invariant-loop-2 g l = record {
  same : l.place.table_id ≡ l.fn.place.table_id;
  id : l.place.id ≡ l.fn.place.id;
  later : l.fn.place.me.0.missed ≤ l.place.me.0.missed;
  alone : 1 + l.fn.place.me.0.free + l.fn.place.me.0.back ≡ l.fn.place.me.0.key.passes → l.place.me.0.missed ≡ l.fn.place.me.0.missed;
  view : l.place.me.0 ≡ record l.fn.place.me.0 { missed = l.place.me.0.missed };
  empty : l.place.me.1 ≡ [];
}
