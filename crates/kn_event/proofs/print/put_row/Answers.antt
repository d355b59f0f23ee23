-- A row whose word is long.
use Rattle.kn_event.specs.EntryLine.{row_text}
use Rattle.kn_event.proofs.print.put_row.Goals as goal

pub returns-in-NotStarting-clause-value : goal.returns-in-NotStarting-clause-value
unfolding row_text
returns-in-NotStarting-clause-value c = rw c.in-NotStarting.is c.put_number-in-NotStarting.ensures.value
