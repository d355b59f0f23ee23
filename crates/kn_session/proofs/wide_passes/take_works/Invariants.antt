use Rattle.std.proofs.Common.{◌≡◌, ◌<◌, ◌≤◌, ℕ, length}
use Rattle.std.specs.Prelude.{slice_index_or}
use Rattle.kn_cell.specs.Shown.{PassView}
use Rattle.kn_request.specs.declared.slot.Work.{Work}
use Rattle.kn_request.specs.Wide.{ArePassesOf, at_pass, passes_in}
use Rattle.kn_session.specs.Passes.{where_some}
use Rattle.kn_session.specs.WidePasses.{IsTakenOut}
use Rattle.kn_session.proofs.wide_passes.take_works.Given as goal

abbrev pub invariant-loop-v : goal.invariant-loop-v
invariant-loop-v l = record {
  cells : ArePassesOf l.cells l.firsts;
  firsts_len : length l.firsts ≡ length l.fn.firsts;
  firsts_done : (j : ℕ) (d : PassView) → j < l.v → slice_index_or l.firsts j d ≡ where_some (at_pass (passes_in l.fn.works) j) (slice_index_or l.fn.firsts j d);
  firsts_rest : (j : ℕ) (d : PassView) → l.v ≤ j → slice_index_or l.firsts j d ≡ slice_index_or l.fn.firsts j d;
  works_len : length l.works ≡ length l.fn.works;
  works_done : (j : ℕ) (d : Work) → j < l.v → IsTakenOut (slice_index_or l.fn.works j d) (slice_index_or l.works j d);
  works_rest : (j : ℕ) (d : Work) → l.v ≤ j → slice_index_or l.works j d ≡ slice_index_or l.fn.works j d;
}
