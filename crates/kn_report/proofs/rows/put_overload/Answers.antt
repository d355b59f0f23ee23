use Rattle.kn_event.specs.EntryLine.{row_text, with_number}
use Rattle.kn_report.proofs.rows.put_overload.Goals as goal

pub returns-clause-text : goal.returns-clause-text
unfolding row_text with_number
returns-clause-text c = c.put_one.ensures.text
