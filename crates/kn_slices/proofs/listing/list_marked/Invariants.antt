use Rattle.std.proofs.Common.{◌≡◌, ◌<◌, ◌≤◌, ℕ, length}
use Rattle.std.specs.Prelude.{slice_index_or, vec_capacity}
use Rattle.kn_slices.specs.Activators.{AreListed, IsOff}
use Rattle.kn_slices.proofs.listing.list_marked.Given as goal

abbrev pub invariant-loop-p : goal.invariant-loop-p
invariant-loop-p l = record {
  count : length l.marked.items ≤ l.p;
  room : length l.marks ≤ vec_capacity l.marked;
  listed : AreListed l.p l.marked.items;
  others : (q : ℕ) → q < l.p → IsOff q l.marked.items → slice_index_or l.marks q 0 ≡ 0;
}
