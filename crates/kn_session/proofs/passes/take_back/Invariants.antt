use Rattle.std.proofs.Common.{◌≡◌, ◌<◌, ◌≤◌, ℕ, length, drop}
use Rattle.std.specs.Prelude.{slice_index_or}
use Rattle.kn_session.specs.Passes.{IsEmptied, joined_all, found_in}
use Rattle.kn_request.specs.declared.slot.Slot.{Slot}
use Rattle.kn_session.proofs.passes.take_back.Given as goal

abbrev pub invariant-loop-i : goal.invariant-loop-i
invariant-loop-i g l = record {
  cell : l.pass.cell ≡ l.cell;
  pass : joined_all l.pass (found_in (drop l.i l.fn.slots)) ≡ joined_all l.fn.pass (found_in l.fn.slots);
  len : length l.slots ≡ length l.fn.slots;
  done : (j : ℕ) (d : Slot g.row.C.Denot g.row.L.Denot) → j < l.i → IsEmptied (slice_index_or l.fn.slots j d) (slice_index_or l.slots j d);
  rest : (j : ℕ) (d : Slot g.row.C.Denot g.row.L.Denot) → l.i ≤ j → slice_index_or l.slots j d ≡ slice_index_or l.fn.slots j d;
}
