use Rattle.std.proofs.Common.{◌≡◌, ◌<◌, ◌≤◌, ◌+◌, ◌-◌, ℕ, length, take}
use Rattle.std.specs.Prelude.{slice_index_or, vec_capacity}
use Rattle.kn_cell.specs.Shown.{PassView, joined_shown}
use Rattle.kn_session.specs.Wide.{at_history}
use Rattle.kn_session.specs.WidePasses.{IsShut}
use Rattle.kn_session.proofs.wide_close.close_cells.Given as goal

abbrev pub invariant-loop-cell : goal.invariant-loop-cell
invariant-loop-cell l =
    let n = length l.fn.cells.items in record {
      cells : l.cells.items ≡ take (length l.cells.items) l.fn.cells.items;
      firsts : l.firsts.items ≡ take (length l.cells.items) l.fn.firsts.items;
      ticks : l.ticks.items ≡ take (length l.cells.items) l.fn.ticks.items;
      firsts_len : length l.firsts.items ≡ length l.cells.items;
      ticks_len : length l.ticks.items ≡ length l.cells.items;
      count : length l.histories.items + length l.cells.items ≡ n;
      closed : (k : ℕ) (p : PassView) → k < length l.histories.items
          → IsShut (joined_shown (slice_index_or l.fn.firsts.items (n - 1 - k) p) (slice_index_or l.fn.ticks.items (n - 1 - k) p)) (at_history l.histories.items k);
      room : n ≤ vec_capacity l.histories;
    }

abbrev pub decreases-loop-cell : goal.decreases-loop-cell
decreases-loop-cell l = length l.cells.items
