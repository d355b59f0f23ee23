-- What was added are the journals so far.
use Rattle.std.proofs.Common.{◌<◌, ◌≤◌, ℕ, List, [], take}
use Rattle.std.specs.Prelude.{All, slice_index_or}
use Rattle.kn_cell.specs.declared.past.Past.{Past}
use Rattle.kn_report.specs.Waiting.{Adds}
use Rattle.kn_print.specs.Printed.{HasSmall, journals_text, printed_journals}
use Rattle.kn_print.proofs.prints.print_journals.Given as goal

abbrev pub invariant-loop-i : goal.invariant-loop-i
invariant-loop-i g l = record {
  held : Adds (g.O.Sink.held l.fn.out) (g.O.Sink.held l.out) [] l.text (journals_text (take l.i (printed_journals l.setups l.start l.histories)));
  small : (k : ℕ) (d : List Past) → k < l.i → All (λ p. HasSmall p.event.act) (slice_index_or l.histories k d);
  later : g.O.Faulty.faults l.fn.out ≤ g.O.Faulty.faults l.out;
}
