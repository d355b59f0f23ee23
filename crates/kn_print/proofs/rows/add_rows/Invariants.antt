-- What was added are the lines of the events so far.
use Rattle.std.proofs.Common.{◌<◌, ◌≤◌, ℕ, take}
use Rattle.std.specs.Prelude.{slice_index_or}
use Rattle.kn_cell.specs.declared.past.Past.{Past}
use Rattle.kn_report.specs.Waiting.{Adds}
use Rattle.kn_print.specs.Printed.{HasSmall, lines_of}
use Rattle.kn_print.proofs.rows.add_rows.Given as goal

abbrev pub invariant-loop-row : goal.invariant-loop-row
invariant-loop-row g l = record {
  held : Adds (g.O.Sink.held l.fn.out) (g.O.Sink.held l.out) l.fn.text l.text (lines_of (take l.row-index l.rows));
  small : (k : ℕ) (d : Past) → k < l.row-index → HasSmall (slice_index_or l.rows k d).event.act;
  later : g.O.Faulty.faults l.fn.out ≤ g.O.Faulty.faults l.out;
}
