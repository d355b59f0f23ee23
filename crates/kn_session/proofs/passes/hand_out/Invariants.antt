use Rattle.std.proofs.Common.{◌≡◌, ◌<◌, ◌≤◌, ◌-◌, ℕ, length}
use Rattle.std.specs.Prelude.{slice_index_or}
use Rattle.kn_request.specs.declared.slot.Slot.{Slot}
use Rattle.kn_session.specs.Passes.{IsGivenOf}
use Rattle.kn_session.proofs.passes.hand_out.Given as goal

abbrev pub invariant-loop-i : goal.invariant-loop-i
invariant-loop-i g l = record {
  pass : l.pass ≡ record l.fn.pass { free = l.fn.pass.free - l.i };
  len : length l.slots ≡ length l.fn.slots;
  done : (j : ℕ) (d : Slot g.row.C.Denot g.row.L.Denot) → j < l.i → IsGivenOf l.cell l.fn.pass j (slice_index_or l.fn.slots j d) (slice_index_or l.slots j d);
  rest : (j : ℕ) (d : Slot g.row.C.Denot g.row.L.Denot) → l.i ≤ j → slice_index_or l.slots j d ≡ slice_index_or l.fn.slots j d;
}
