use Rattle.std.proofs.Common.{◌≡◌, ◌<◌, ◌≤◌, ◌+◌, ℕ, [], length, take, reverse}
use Rattle.std.specs.Prelude.{slice_index_or, vec_capacity}
use Rattle.atomic_table.specs.Seated.{TableId}
use Rattle.kn_core.specs.State.{RevisionState}
use Rattle.kn_cell.specs.Shown.{PassView}
use Rattle.kn_session.specs.WidePasses.{IsOpen}
use Rattle.kn_session.proofs.wide_open.open_cells.Given as goal

abbrev pub invariant-loop-revision : goal.invariant-loop-revision
invariant-loop-revision l =
    let n = length l.fn.revisions.items in record {
      left : l.revisions.items ≡ take (length l.revisions.items) (reverse l.fn.revisions.items);
      cells : length l.opened.cells.items + length l.revisions.items ≡ n;
      firsts : length l.opened.firsts.items ≡ length l.opened.cells.items;
      ticks : length l.opened.ticks.items ≡ length l.opened.cells.items;
      each : (v : ℕ) (b : RevisionState) (c : TableId) (p : PassView) → v < length l.opened.cells.items
          → IsOpen (slice_index_or l.fn.revisions.items v b) l.room l.passes (slice_index_or l.opened.cells.items v c) (slice_index_or l.opened.firsts.items v p) (slice_index_or l.opened.ticks.items v p);
      lasts : length l.opened.lasts.items ≡ n;
      histories : l.opened.histories.items ≡ [];
      cells_room : n ≤ vec_capacity l.opened.cells;
      firsts_room : n ≤ vec_capacity l.opened.firsts;
      ticks_room : n ≤ vec_capacity l.opened.ticks;
      histories_room : n ≤ vec_capacity l.opened.histories;
    }

abbrev pub decreases-loop-revision : goal.decreases-loop-revision
decreases-loop-revision l = length l.revisions.items
