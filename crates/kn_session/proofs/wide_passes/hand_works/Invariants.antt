use Rattle.std.proofs.Common.{◌≡◌, ◌<◌, ◌≤◌, ◌+◌, ◌-◌, ℕ, length}
use Rattle.std.specs.Prelude.{slice_index_or}
use Rattle.kn_cell.specs.Shown.{PassView}
use Rattle.kn_request.specs.declared.slot.Work.{Work}
use Rattle.kn_session.specs.WidePasses.{IsGivenBy, gave}
use Rattle.kn_session.proofs.wide_passes.hand_works.Given as goal

abbrev pub invariant-loop-v : goal.invariant-loop-v
invariant-loop-v l = record {
  firsts_len : length l.firsts ≡ length l.fn.firsts;
  firsts_done : (j : ℕ) (d : PassView) → j < l.v → slice_index_or l.firsts j d ≡ gave 1 (slice_index_or l.fn.firsts j d);
  firsts_rest : (j : ℕ) (d : PassView) → l.v ≤ j → slice_index_or l.firsts j d ≡ slice_index_or l.fn.firsts j d;
  works_len : length l.works ≡ length l.fn.works;
  works_done : (j : ℕ) (d : PassView) (w : Work) → j < l.v → IsGivenBy (slice_index_or l.fn.firsts j d) ((slice_index_or l.fn.firsts j d).passes - (slice_index_or l.fn.firsts j d).free + 0) (slice_index_or l.works j w);
}
