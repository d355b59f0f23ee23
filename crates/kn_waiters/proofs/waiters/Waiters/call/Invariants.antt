use Rattle.std.proofs.Common.{◌≡◌, ◌≤◌, ◌++◌, length, vec_capacity}
use Rattle.std.specs.List.{filter}
use Rattle.kn_waiters.specs.Waiting.{IsStartOf, IsRoomy}
use Rattle.kn_waiters.proofs.Waits.{is_for, is_other, passes_of}
use Rattle.kn_waiters.proofs.waiters.Waiters.call.Given as goal

abbrev pub invariant-loop-self : goal.invariant-loop-self
invariant-loop-self l = record {
  roomy : IsRoomy l.self-inside.waiting.items l.self-inside.called.items l.self-inside.room;
  wide : l.self-inside.room ≤ vec_capacity l.self-inside.waiting;
  wide_called : l.self-inside.room ≤ vec_capacity l.self-inside.called;
  room : l.self-inside.room ≡ l.initial.self-inside.room;
  at : IsStartOf l.request l.self-inside.waiting.items l.place;
  waiting : filter (is_other l.request) l.self-inside.waiting.items ≡ filter (is_other l.request) l.initial.self-inside.waiting.items;
  called : l.self-inside.called.items ++ passes_of (filter (is_for l.request) l.self-inside.waiting.items)
      ≡ l.initial.self-inside.called.items ++ passes_of (filter (is_for l.request) l.initial.self-inside.waiting.items);
}

abbrev pub decreases-loop-self : goal.decreases-loop-self
decreases-loop-self l = length l.self-inside.waiting.items
