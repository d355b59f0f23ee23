use Rattle.std.proofs.Common.{◌≡◌, ◌<◌, ◌≤◌, ℕ, length}
use Rattle.std.specs.Prelude.{slice_index_or}
use Rattle.kn_request.specs.declared.slot.WideSlot.{WideSlot}
use Rattle.kn_many.specs.Ending.{IsAllCleared}
use Rattle.kn_many.proofs.ending.clear_all.Given as goal

abbrev pub invariant-loop-i : goal.invariant-loop-i
invariant-loop-i g l = record {
  len : length l.slots ≡ length l.fn.slots;
  done : (j : ℕ) (d : WideSlot g.row.C.Denot g.row.L.Denot) → j < l.i → IsAllCleared (slice_index_or l.fn.slots j d) (slice_index_or l.slots j d);
  rest : (j : ℕ) (d : WideSlot g.row.C.Denot g.row.L.Denot) → l.i ≤ j → slice_index_or l.slots j d ≡ slice_index_or l.fn.slots j d;
}
