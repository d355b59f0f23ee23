use Rattle.std.proofs.Common.{◌≡◌, ◌<◌, ◌≤◌, ℕ, drop, length}
use Rattle.std.specs.Prelude.{slice_index_or}
use Rattle.kn_cell.specs.Shown.{PassView}
use Rattle.kn_request.specs.declared.slot.WideSlot.{WideSlot}
use Rattle.kn_request.specs.Wide.{ArePassesOf}
use Rattle.kn_session.specs.Passes.{found_by, joined_all}
use Rattle.kn_session.specs.WidePasses.{EachTakenOut, HasSame, pass_at}
use Rattle.kn_session.proofs.wide_passes.take_all.Given as goal

abbrev pub invariant-loop-i : goal.invariant-loop-i
invariant-loop-i g l = record {
  cells : ArePassesOf l.cells l.firsts;
  firsts_len : length l.firsts ≡ length l.fn.firsts;
  firsts : (v : ℕ) (d : PassView) → v < length l.fn.firsts
      → joined_all (slice_index_or l.firsts v d) (found_by (pass_at v) (drop l.i l.fn.slots)) ≡ joined_all (slice_index_or l.fn.firsts v d) (found_by (pass_at v) l.fn.slots);
  len : length l.slots ≡ length l.fn.slots;
  done : (j : ℕ) (d : WideSlot g.row.C.Denot g.row.L.Denot) → j < l.i
      → EachTakenOut (slice_index_or l.fn.slots j d).works.items (slice_index_or l.slots j d).works.items × HasSame (slice_index_or l.fn.slots j d) (slice_index_or l.slots j d);
  rest : (j : ℕ) (d : WideSlot g.row.C.Denot g.row.L.Denot) → l.i ≤ j → slice_index_or l.slots j d ≡ slice_index_or l.fn.slots j d;
}
