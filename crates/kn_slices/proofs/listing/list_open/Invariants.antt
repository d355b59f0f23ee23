use Rattle.std.proofs.Common.{◌<◌, ◌≤◌, ℕ, length}
use Rattle.std.specs.Prelude.{vec_capacity}
use Rattle.kn_slices.specs.Activators.{AreListed, IsClosed, IsOff}
use Rattle.kn_slices.proofs.listing.list_open.Given as goal

abbrev pub invariant-loop-p : goal.invariant-loop-p
invariant-loop-p l = record {
  count : length l.listed.items ≤ l.p;
  room : length l.wanted ≤ vec_capacity l.listed;
  listed : AreListed l.p l.listed.items;
  others : (q : ℕ) → q < l.p → IsOff q l.listed.items → IsClosed l.wanted l.force l.marks q;
}
